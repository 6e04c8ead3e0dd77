use Rattle.std.proofs.Common.{◌≡◌, ℕ, ◌+◌, Bool, true, false, cond, ltb, List, [], ◌∷◌, Some, None, Option, refl, sym, ap, ◌∙◌, arith}
use Rattle.std.specs.Option.{option_map}
use Rattle.std.specs.List.{position, position_from}
use Rattle.std.proofs.lemmas.Iterator.Adapters.{position_from-zero}
use Rattle.der.specs.Heads.{run}

same : (o : Option ℕ) → o ≡ option_map (λ n. 0 + n) o
same None = refl
same (Some n) = ap (λ (k : ℕ). Some k) (omega arith)

further : (i : ℕ) (o : Option ℕ) → option_map (λ n. i + n) (option_map (λ n. 1 + n) o) ≡ option_map (λ n. i + 1 + n) o
further i None = refl
further i (Some n) = ap (λ (k : ℕ). Some k) (omega arith)

split : (b : Bool) (i : ℕ) (o q : Option ℕ) → option_map (λ n. i + 1 + n) o ≡ option_map (λ n. n + 1) q
    → option_map (λ n. i + n) (cond b (Some 1) (option_map (λ n. 1 + n) o)) ≡ option_map (λ n. n + 1) (cond b (Some i) q)
split true i o q e = refl
split false i o q e = further i o ∙ e

from : (i : ℕ) (xs : List ℕ) → option_map (λ n. i + n) (run xs) ≡ option_map (λ n. n + 1) (position_from (λ x. ltb x 128) i xs)
from i [] = refl
from i (x ∷ xs) = split (ltb x 128) i (run xs) (position_from (λ y. ltb y 128) (i + 1) xs) (from (i + 1) xs)

-- a run ends behind the first byte whose top bit is clear
pub run_position : (xs : List ℕ) → run xs ≡ option_map (λ n. n + 1) (position (λ x. ltb x 128) xs)
run_position xs = same (run xs) ∙ from 0 xs ∙ ap (option_map (λ n. n + 1)) (sym (position_from-zero (λ x. ltb x 128) xs))
