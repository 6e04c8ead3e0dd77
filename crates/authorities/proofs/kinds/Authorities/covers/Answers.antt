use Rattle.std.proofs.Common.{refl, arith}
use Rattle.authorities.proofs.Members.{covers_decides}
use Rattle.authorities.proofs.kinds.Authorities.covers.Goals as goal

pub returns : goal.returns
returns c = record { value = refl; law = covers_decides c.args.self c.args.listed (omega arith) }
