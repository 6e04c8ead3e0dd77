use Rattle.std.proofs.Common.{◌≡◌, Some, ap, rules}
use Rattle.parts.specs.Parts.{piece}
use Rattle.der.specs.Items.{shape, taken, item_of}
use Rattle.dice.specs.Fields.{tag_of}
use Rattle.dice.proofs.Tags.{unknown_field, tag_found, tag_lost}
use Rattle.dice.proofs.fields.FieldsElements.read_element.Goals as goal

pub returns-in_err-field-clause-value : goal.returns-in_err-field-clause-value
returns-in_err-field-clause-value c =
    let first : item_of (piece c.args.part) ≡ Some (taken c.in_ok-taken.taken) = search rules in
    let lost = tag_lost c.in-Field.tag c.try_from.result c.ok.result _ c.in_err-field.field-0.0 c.try_from.ensures c.ok.ensures.value c.in_err-field.ensures.value in
    let refused = unknown_field c.args.self (piece c.args.part) (taken c.in_ok-taken.taken) c.in-Field.tag (piece c.in-Field.content)
    first (ap shape c.in-Field.is) lost in
    search rules

pub returns-clause-value : goal.returns-clause-value
returns-clause-value c =
    let e : tag_of c.in_ok-field.field ≡ c.in-Field.tag = tag_found c.in-Field.tag c.try_from.result c.ok.result _ c.in_ok-field.field c.try_from.ensures c.ok.ensures.value c.in_ok-field.ensures.value in
    search rules
