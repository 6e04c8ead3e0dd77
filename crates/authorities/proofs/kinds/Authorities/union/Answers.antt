use Rattle.std.proofs.Common.{refl}
use Rattle.authorities.proofs.Members.{in_together, covers_together}
use Rattle.authorities.proofs.kinds.Authorities.union.Goals as goal

pub returns : goal.returns
returns c =
    record {
      value = refl;
      law = in_together c.args.self c.args.others;
      covered = λ l. covers_together c.args.self c.args.others l;
    }
