use Rattle.std.proofs.Common.{◌≡◌, map, drop}
use Rattle.records.specs.Additions.{claim_of, joined_all, additions_of}
use Rattle.records.specs.Few.{members}
use Rattle.records.proofs.additions.additions_of.Given as goal

abbrev pub invariant-loop-condition : goal.invariant-loop-condition
invariant-loop-condition l = joined_all l.claims (map claim_of (drop l.condition-index (members l.found))) ≡ additions_of l.found
