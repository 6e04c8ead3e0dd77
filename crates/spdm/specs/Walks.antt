use Rattle.std.specs.Prelude.{◌≡◌, ℕ, zero, suc, ◌+◌, ◌<◌, List, [], ◌∷◌, length, drop, Some, Ok, Err, Option, refl}
use Rattle.std.proofs.Common.{arith}
use Rattle.std.proofs.lemmas.Bool.{cond-true, cond-false, eq-eqb, ne_eqb}
use Rattle.std.specs.Option.{ok_or}
use Rattle.refusals.specs.declared.Refusal.TheVariants.{NoSuchNumber}
use Rattle.refusals.specs.Reading.{onward, keeps}
use Rattle.evidence.specs.Readings.{Reading, counted, claim_at}
use Rattle.parts.specs.Picks.{picked}
use Rattle.spdm.specs.declared.kinds.Setup.{Setup}
use Rattle.spdm.specs.Rows.{entry_of, row_of}

-- a row that is not empty begins with an entry
pub row_more : (s : Setup) (n : ℕ) (last : Option ℕ) (at : ℕ) (m : List ℕ) → 0 < length m
    → row_of s (suc n) last at m ≡ onward (entry_of s last at m) (λ e. keeps (row_of s n (Some e.index) (at + e.size) (drop e.size m)) (λ cs. e.claim ∷ cs))
row_more s n last at m h = cond-false _ _ _ (ne_eqb (length m) 0 (λ e. omega arith))

-- an empty row gives no claims
pub row_none : (s : Setup) (n : ℕ) (last : Option ℕ) (at : ℕ) (m : List ℕ) → length m ≡ 0 → row_of s n last at m ≡ Ok []
row_none s zero last at m e = refl
row_none s (suc n) last at m e = cond-true _ _ _ (eq-eqb (length m) 0 e)

-- what a walk tells of the reading
pub count_picked : (r : Reading) (wanted : ℕ) → counted r ≡ keeps (keeps r (picked wanted)) (λ p. p.seen)
count_picked (Ok cs) wanted = refl
count_picked (Err e) wanted = refl

pub claim_picked : (r : Reading) (wanted : ℕ) → claim_at r wanted ≡ onward (keeps r (picked wanted)) (λ p. ok_or p.kept (NoSuchNumber p.seen))
claim_picked (Ok cs) wanted = refl
claim_picked (Err e) wanted = refl
