use Rattle.std.proofs.Common.{length}
use Rattle.parts.specs.Parts.{piece}
use Rattle.spdm.proofs.Walks.{WalkedTo}
use Rattle.spdm.proofs.reader.walk.Given as goal

abbrev pub invariant-loop-rest : goal.invariant-loop-rest
invariant-loop-rest l = WalkedTo l.setup l.message l.wanted l.last l.pick (piece l.rest)

abbrev pub decreases-loop-rest : goal.decreases-loop-rest
decreases-loop-rest l = length (piece l.rest).bytes
