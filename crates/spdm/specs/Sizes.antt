use Rattle.std.specs.Prelude.{◌≡◌, ℕ, ◌+◌, ◌-◌, ◌*◌, ◌≤◌, List, [], ◌∷◌, length, take, drop, Some, slice_index}
use Rattle.std.proofs.Common.{ap, ◌∙◌, arith}
use Rattle.std.proofs.lemmas.List.{take_rest, length-take-le}
use Rattle.std.proofs.lemmas.Bool.{and_from, le-leb, eq-eqb, cond-true}
use Rattle.spdm.specs.Blocks.{little, size_at, block_of}

-- a block whose sizes agree and whose value is whole is the one that stands there
pub block_found : (m : List ℕ) (size n : ℕ) → 7 ≤ length m → size ≡ slice_index m 2 + slice_index m 3 * 256 → n ≡ slice_index m 5 + slice_index m 6 * 256
    → size ≡ n + 3 → 7 + n ≤ length m
    → block_of m ≡ Some (record { index = slice_index m 0; specification = slice_index m 1; kind = slice_index m 4; value = take n (drop 7 m) })
block_found m size n long s v agree whole =
    let e : size_at m 5 ≡ n = omega arith in
    cond-true _ _ _ (and_from _ _ (and_from _ _ (le-leb 7 (length m) long) (eq-eqb _ _ (omega arith))) (le-leb _ _ (omega arith)))
    ∙ ap (λ (k : ℕ). Some (record { index = slice_index m 0; specification = slice_index m 1; kind = slice_index m 4; value = take k (drop 7 m) })) e

-- the same of a value that was cut out of what follows the header
pub value_cut : (m : List ℕ) (n : ℕ) → n ≤ length (take (length m - 7) (drop 7 m))
    → (take (n - 0) (take (length m - 7) (drop 7 m)) ≡ take n (drop 7 m)) × (length (take n (drop 7 m)) ≡ n)
value_cut m n h =
    let h₁ : n ≤ length (drop 7 m) = rw (take_rest m 7) at h in
    let e : n - 0 ≡ n = omega arith in
    (rw (take_rest m 7, e), length-take-le n (drop 7 m) h₁)

-- the number in eight bytes
pub little_eight : (v : List ℕ) → length v ≡ 8
    → little v ≡ slice_index v 0 + slice_index v 1 * 256 + slice_index v 2 * 65536 + slice_index v 3 * 16777216 + slice_index v 4 * 4294967296 + slice_index v 5 * 1099511627776 + slice_index v 6 * 281474976710656 + slice_index v 7 * 72057594037927936
little_eight [] e = absurd (omega arith)
little_eight (a ∷ []) e = absurd (omega arith)
little_eight (a ∷ b ∷ []) e = absurd (omega arith)
little_eight (a ∷ b ∷ c ∷ []) e = absurd (omega arith)
little_eight (a ∷ b ∷ c ∷ d ∷ []) e = absurd (omega arith)
little_eight (a ∷ b ∷ c ∷ d ∷ f ∷ []) e = absurd (omega arith)
little_eight (a ∷ b ∷ c ∷ d ∷ f ∷ g ∷ []) e = absurd (omega arith)
little_eight (a ∷ b ∷ c ∷ d ∷ f ∷ g ∷ h ∷ []) e = absurd (omega arith)
little_eight (a ∷ b ∷ c ∷ d ∷ f ∷ g ∷ h ∷ i ∷ []) e = omega arith
little_eight (a ∷ b ∷ c ∷ d ∷ f ∷ g ∷ h ∷ i ∷ j ∷ v) e = absurd (omega arith)
