use Rattle.std.proofs.Common.{◌-◌, length}
use Rattle.manifests.proofs.Passed.{Passed}
use Rattle.manifests.proofs.reader.pick_triple.Given as goal

abbrev pub invariant-loop-triple : goal.invariant-loop-triple
invariant-loop-triple l = Passed l.signer l.message l.wanted l.walk l.pick

abbrev pub decreases-loop-triple : goal.decreases-loop-triple
decreases-loop-triple l = length l.message - l.walk.cursor.used
