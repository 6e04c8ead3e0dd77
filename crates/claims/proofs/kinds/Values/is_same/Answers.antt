use Rattle.std.proofs.Math.Bool.{and_assoc}
use Rattle.claims.proofs.kinds.Values.is_same.Goals as goal

pub returns : goal.returns
returns c = simp and_assoc (simp and_assoc at c.eq.ensures)
