use Rattle.std.proofs.Common.{rules}
use Rattle.parts.specs.Parts.{piece}
use Rattle.cbor.specs.Items.{is_bytes}
use Rattle.cbor.proofs.Chosen.{item_taken, tagged_whole}
use Rattle.cbor.proofs.scalars.read_tagged_bytes.Goals as goal

pub returns-clause-value : goal.returns-clause-value
returns-clause-value g c =
    let s = item_taken piece is_bytes _ (piece c.after.result) c.in_ok-string.string c.take_as.result (search rules) c.take_as.ensures.value (λ i o e. e.1) in
    tagged_whole c.args.tag g.row.N c.args.least (piece c.args.part) c.in_ok-head.head c.in_ok-string.string c.in_ok-keep.field-0 c.behind.result c.in_ok-head.ensures.value c.if-head-tag.false
    c.in_ok-head.ensures.within.1 (rw c.after.ensures.value at s) (rw c.place-at.ensures at c.in_ok-keep.ensures) c.behind.ensures.value c.behind.ensures.size
