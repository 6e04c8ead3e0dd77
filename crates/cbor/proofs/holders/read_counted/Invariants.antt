use Rattle.std.proofs.Common.{◌-◌}
use Rattle.parts.specs.Parts.{piece}
use Rattle.cbor.proofs.Counts.{Counting}
use Rattle.cbor.proofs.holders.read_counted.Given as goal

abbrev pub invariant-loop : goal.invariant-loop
invariant-loop g l = Counting g.E.Elements.element l.fn.head l.fn.start (piece l.part) (l.end - l.counter) l.found
