use Rattle.std.proofs.Common.{◌≡◌, Some, rules}
use Rattle.claims.specs.Bytes.{kept_from}
use Rattle.claims.proofs.Kept.{kept_holds}
use Rattle.spdm.proofs.kinds.Spdm.new.Goals as goal

pub invariant_of-result : goal.invariant_of-result
invariant_of-result c = let e : kept_from 32 1 c.args.class.now ≡ Some c.in_ok-class.class = search rules in record { ok = kept_holds 32 1 c.args.class.now c.in_ok-class.class e }
