use Rattle.std.proofs.Common.{sym, ◌∙◌, rules}
use Rattle.parts.specs.Parts.{piece}
use Rattle.parts.proofs.Steps.{walk_goes, walk_stops, walk_ends, none_true, none_false}
use Rattle.parts.proofs.holders.read_elements.Goals as goal

pub returns-in_err-element : goal.returns-in_err-element
returns-in_err-element g c =
    let inside = none_false (piece c.loop-rest.rest) (sym c.is_empty.ensures ∙ c.loop-rest-test.true) in
    let stopped
    = walk_stops g.E.Elements.element c.args.start (piece c.args.part) (piece c.loop-rest.rest) c.loop-rest.found inside c.in_err-element.field-0.0 c.in_err-element.ensures.value c.loop-rest.invariant in
    search rules

pub loop-rest-preserved : goal.loop-rest-preserved
loop-rest-preserved g c =
    let inside = none_false (piece c.loop-rest.rest) (sym c.is_empty.ensures ∙ c.loop-rest-test.true) in
    rw c.after-rest.ensures.value
    (walk_goes g.E.Elements.element c.args.start (piece c.args.part) (piece c.loop-rest.rest) c.loop-rest.found inside c.in_ok-element.element c.in_ok-element.ensures.value c.in_ok-element.ensures.within c.loop-rest.invariant)

pub returns : goal.returns
returns g c =
    let empty = none_true (piece c.loop-rest.rest) (sym c.is_empty.ensures ∙ c.loop-rest-test.false) in
    walk_ends g.E.Elements.element c.args.start (piece c.args.part) (piece c.loop-rest.rest) c.loop-rest.found empty c.loop-rest.invariant
