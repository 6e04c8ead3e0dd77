use Rattle.std.specs.Prelude.{◌≡◌, ℕ, List, [], ◌∷◌, Ok, Err}
use Rattle.std.specs.List.{AllByRecursion}
use Rattle.refusals.specs.declared.Refusal.TheVariants.{Unknown}
use Rattle.claims.specs.Bytes.{bounded}
use Rattle.claims.specs.Environments.{no_environment, with_class}
use Rattle.claims.specs.Values.{no_values, with_svn}
use Rattle.evidence.specs.Readings.{Reading}
use Rattle.claims.specs.Claims.{no_claim}
use Rattle.dice.specs.Fields.{in_environment, in_values}
use Rattle.dice.specs.Messages.{reading}

-- a message, and what comes of it
pub record Example : Type 0 where
  pub message : List ℕ
  pub outcome : Reading

-- "coin"
abbrev pub coin : List ℕ
coin = 0x63 ∷ 0x6F ∷ 0x69 ∷ 0x6E ∷ []

-- svn 2 of the class coin; and the same with its two fields reversed
abbrev pub examples : List Example
examples =
    record {
      message = 0x30 ∷ 0x17 ∷ 0x30 ∷ 0x15 ∷ 0x06 ∷ 0x06 ∷ 0x67 ∷ 0x81 ∷ 0x05 ∷ 0x05 ∷ 0x04 ∷ 0x01 ∷ 0x04 ∷ 0x0B ∷ 0x30 ∷ 0x09 ∷ 0x83 ∷ 0x01 ∷ 0x02 ∷ 0x89 ∷ 0x04 ∷ 0x63 ∷ 0x6F ∷ 0x69 ∷ 0x6E ∷ [];
      outcome = Ok (in_environment (in_values no_claim (with_svn no_values 2)) (with_class no_environment (bounded 32 coin)) ∷ []);
    }
    ∷ record {
      message = 0x30 ∷ 0x17 ∷ 0x30 ∷ 0x15 ∷ 0x06 ∷ 0x06 ∷ 0x67 ∷ 0x81 ∷ 0x05 ∷ 0x05 ∷ 0x04 ∷ 0x01 ∷ 0x04 ∷ 0x0B ∷ 0x30 ∷ 0x09 ∷ 0x89 ∷ 0x04 ∷ 0x63 ∷ 0x6F ∷ 0x69 ∷ 0x6E ∷ 0x83 ∷ 0x01 ∷ 0x02 ∷ [];
      outcome = Err (Unknown 22);
    }
    ∷ []

abbrev pub ReadsSo : Example → Type 0
ReadsSo x = reading x.message ≡ x.outcome

-- each example is read as it says
abbrev pub AllReadSo : Type 0
AllReadSo = AllByRecursion ReadsSo examples
