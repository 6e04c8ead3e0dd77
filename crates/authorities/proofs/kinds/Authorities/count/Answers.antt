use Rattle.std.proofs.Common.{arith}
use Rattle.authorities.proofs.Members.{members_count, members_decides}
use Rattle.authorities.proofs.kinds.Authorities.count.Goals as goal

pub returns : goal.returns
returns c = record { value = members_count c.args.self (omega arith); law = members_decides c.args.self }
