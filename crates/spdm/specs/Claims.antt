use Rattle.std.specs.Prelude.{ℕ, cond, ◌&&◌, List, length, Some, None, Option, ◌==◌, nat_le}
use Rattle.std.specs.Option.{option_map}
use Rattle.claims.specs.Bytes.{kept_from}
use Rattle.claims.specs.Digests.{digest_of}
use Rattle.claims.specs.declared.kinds.Algorithm.{Algorithm}
use Rattle.claims.specs.declared.kinds.Values.{Values}
use Rattle.claims.specs.declared.kinds.Claim.{Claim}
use Rattle.claims.specs.Environments.{no_environment, with_class}
use Rattle.claims.specs.Values.{no_values, with_svn, with_digests, with_raw}
use Rattle.spdm.specs.declared.kinds.Setup.{Setup}
use Rattle.spdm.specs.Blocks.{Block, little}

-- a security version number in eight bytes, low byte first
abbrev pub svn_of : List ℕ → Option ℕ
svn_of v = cond (length v == 8 && nat_le (little v) 4294967295) (Some (little v)) None

-- what a value says by its type: 00 to 04 a digest, 80 to 84 a raw value, 87 an svn
abbrev pub values_of : Algorithm → ℕ → List ℕ → Option Values
values_of algorithm kind v =
    cond (nat_le kind 0x04) (option_map (with_digests no_values) (digest_of algorithm v))
    (cond (nat_le 0x80 kind && nat_le kind 0x84) (option_map (with_raw no_values) (kept_from 64 1 v))
    (cond (kind == 0x87) (option_map (with_svn no_values) (svn_of v))
    None))

-- values of the set-up's class, under an index as element key
abbrev pub claimed : Setup → ℕ → Values → Claim
claimed s index values = record {
  environment = with_class no_environment s.class;
  key = Some index;
  values = values;
}

-- the claim of a block within its limits: index 1 to 239, specification 01
abbrev pub claim_of : Setup → Block → Option Claim
claim_of s b =
    cond (nat_le 1 b.index && nat_le b.index 239 && b.specification == 0x01)
    (option_map (claimed s b.index) (values_of s.algorithm b.kind b.value))
    None
