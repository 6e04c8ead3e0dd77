use Rattle.std.proofs.Common.{◌≡◌, ℕ, ◌+◌, ◌≤◌, min, List, ◌++◌, length, drop, refl, ap, ◌∙◌, arith}
use Rattle.parts.specs.Parts.{Piece, after, front, before}
use Rattle.std.proofs.lemmas.List.{drop_at, take_at, length-append, length-drop}

-- a part behind its first bytes, and the next bytes of it

pub behind_at : (xs ys : List ℕ) (at n : ℕ) → length xs ≡ n → after n (record { at = at; bytes = xs ++ ys }) ≡ record { at = at + n; bytes = ys }
behind_at xs ys at n e =
    let i : at + min n (length (xs ++ ys)) ≡ at + n = omega (arith, length-append xs ys) in
    ap (λ (j : ℕ). record { at = j; bytes = drop n (xs ++ ys) }) i
    ∙ ap (λ (l : List ℕ). record { at = at + n; bytes = l }) (drop_at xs ys n e)

pub front_at : (xs c rest : List ℕ) (at n : ℕ) → length xs ≡ n
    → front (length c) (after n (record { at = at; bytes = xs ++ (c ++ rest) })) ≡ record { at = at + n; bytes = c }
front_at xs c rest at n e =
    ap (front (length c)) (behind_at xs (c ++ rest) at n e)
    ∙ ap (λ (l : List ℕ). record { at = at + n; bytes = l }) (take_at c rest (length c) refl)

-- as many bytes stand before what follows the first n
pub before_after : (p : Piece) (n : ℕ) → n ≤ length p.bytes → before p (after n p) ≡ n
before_after p n h = rw length-drop (omega arith)
