use Rattle.std.specs.Prelude.{◌≡◌, ℕ, List, [], ◌∷◌, Ok, Err}
use Rattle.std.specs.List.{AllByRecursion}
use Rattle.refusals.specs.Reading.{onward}
use Rattle.refusals.specs.declared.Refusal.TheVariants.{Malformed}
use Rattle.claims.specs.Bytes.{bounded}
use Rattle.claims.specs.declared.kinds.Algorithm.TheVariants.{Sha256}
use Rattle.evidence.specs.Readings.{Reading}
use Rattle.claims.specs.Values.{no_values, with_raw}
use Rattle.spdm.specs.Claims.{claimed}
use Rattle.spdm.specs.Rows.{reading}
use Rattle.spdm.specs.Setups.{setup_of}

-- a message, the set-up that it is read under, and what comes of it
pub record Example : Type 0 where
  pub class : List ℕ
  pub algorithm : ℕ
  pub message : List ℕ
  pub outcome : Reading

-- "coin"
abbrev pub coin : List ℕ
coin = 0x63 ∷ 0x6F ∷ 0x69 ∷ 0x6E ∷ []

-- a coin controller's setting 5 is 200; and the same message without its last byte
abbrev pub examples : List Example
examples =
    record {
      class = coin;
      algorithm = 1;
      message = 0x05 ∷ 0x01 ∷ 0x05 ∷ 0x00 ∷ 0x83 ∷ 0x02 ∷ 0x00 ∷ 0x00 ∷ 0xC8 ∷ [];
      outcome = Ok (claimed (record { class = bounded 32 coin; algorithm = Sha256 }) 5 (with_raw no_values (bounded 64 (0x00 ∷ 0xC8 ∷ []))) ∷ []);
    }
    ∷ record {
      class = coin;
      algorithm = 1;
      message = 0x05 ∷ 0x01 ∷ 0x05 ∷ 0x00 ∷ 0x83 ∷ 0x02 ∷ 0x00 ∷ 0x00 ∷ [];
      outcome = Err (Malformed 0);
    }
    ∷ []

abbrev pub ReadsSo : Example → Type 0
ReadsSo x = onward (setup_of x.class x.algorithm) (λ s. reading s x.message) ≡ x.outcome

-- each example is read as it says
abbrev pub AllReadSo : Type 0
AllReadSo = AllByRecursion ReadsSo examples
