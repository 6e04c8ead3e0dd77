use Rattle.std.proofs.Common.{◌≡◌, ℕ, zero, suc, ◌+◌, ◌^◌, ◌<◌, min, cond, eqb, List, [], ◌∷◌, ◌++◌, length, Some, Option, refl, ap, ◌∙◌, arith}
use Rattle.std.specs.List.{slice_get}
use Rattle.std.proofs.lemmas.List.{length_push}
use Rattle.std.proofs.lemmas.Bool.Decides.{nat_tests}
use Rattle.parts.specs.Picks.{picked, noted}

pub nth_push : {T : Type 0} (xs : List T) (x : T) (n : ℕ) → cond (eqb (length xs) n) (Some x) (slice_get xs n) ≡ slice_get (xs ++ x ∷ []) n
nth_push [] x zero = refl
nth_push [] x (suc n) = grind (arith, nat_tests)
nth_push (y ∷ ys) x zero = grind (arith, nat_tests)
nth_push (y ∷ ys) x (suc n) = let e = nth_push ys x n in grind (arith, nat_tests)

-- one more is one more at the end of the list
pub picked_more : {T : Type 0} (wanted : ℕ) (xs : List T) (x : T) → length xs + 1 < 2 ^ 64 → noted wanted (picked wanted xs) x ≡ picked wanted (xs ++ x ∷ [])
picked_more {T = T} wanted xs x few =
    let e : min (length xs + 1) 18446744073709551615 ≡ length (xs ++ x ∷ []) = rw (length_push xs x) (omega arith) in
    ap (λ (k : ℕ). record { seen = k; kept = cond (eqb (length xs) wanted) (Some x) (slice_get xs wanted) }) e
    ∙ ap (λ (o : Option T). record { seen = length (xs ++ x ∷ []); kept = o }) (nth_push xs x wanted)
