use Rattle.std.proofs.Common.{rules}
use Rattle.parts.specs.Parts.{piece}
use Rattle.cbor.specs.Items.{is_unsigned}
use Rattle.cbor.proofs.Chosen.{held_taken}
use Rattle.measurements.proofs.Numbered.{tagged_out, tagged_whole}
use Rattle.measurements.proofs.svns.read_tagged_svn.Goals as goal

pub returns-then-number-gt4294967295-clause-value : goal.returns-then-number-gt4294967295-clause-value
returns-then-number-gt4294967295-clause-value c =
    let n = held_taken is_unsigned _ (piece c.after.result) c.in_ok-number.number c.take_as.result (search rules) c.take_as.ensures.value (λ i o e. e.1) in
    rw c.place-at.ensures
    (tagged_out c.args.minimum (piece c.args.part) c.in_ok-tag.tag c.in_ok-number.number c.in_ok-tag.ensures.value (search rules) c.in_ok-tag.ensures.within.1 (rw c.after.ensures.value at n) c.if-number-gt4294967295.true)

pub returns-clause-value : goal.returns-clause-value
returns-clause-value c =
    let n = held_taken is_unsigned _ (piece c.after.result) c.in_ok-number.number c.take_as.result (search rules) c.take_as.ensures.value (λ i o e. e.1) in
    tagged_whole c.args.minimum (piece c.args.part) c.in_ok-tag.tag c.in_ok-number.number c.in_ok-tag.ensures.value (search rules) c.in_ok-tag.ensures.within.1 (rw c.after.ensures.value at n) c.behind.result
    c.if-number-gt4294967295.false (search rules) (search rules)
