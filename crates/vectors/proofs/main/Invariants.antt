use Rattle.std.proofs.Common.{◌≤◌}
use Rattle.vectors.proofs.main.Given as goal

-- no more cases agree than were compared
abbrev pub invariant-loop-number : goal.invariant-loop-number
invariant-loop-number l = l.agree ≤ l.number-counter
