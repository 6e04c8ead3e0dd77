use Rattle.std.proofs.Common.{length}
use Rattle.parts.specs.Parts.{piece}
use Rattle.parts.proofs.Steps.{Walked}
use Rattle.parts.proofs.holders.read_elements.Given as goal

abbrev pub invariant-loop-rest : goal.invariant-loop-rest
invariant-loop-rest g l = Walked g.E.Elements.element l.initial.found (piece l.part) (piece l.rest) l.found

abbrev pub decreases-loop-rest : goal.decreases-loop-rest
decreases-loop-rest g l = length (piece l.rest).bytes
