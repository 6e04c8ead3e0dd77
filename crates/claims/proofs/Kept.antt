use Rattle.std.proofs.Common.{◌≡◌, ℕ, ◌-◌, ◌≤◌, Bool, true, false, cond, ◌&&◌, leb, List, length, take, replicate, Some, None, Decides, sym, refl, ap, ◌∙◌, subst, arith}
use Rattle.std.proofs.lemmas.List.{take_at}
use Rattle.std.proofs.lemmas.Bool.{and_from, and_parts, le-leb, leb-true, cond-true}
use Rattle.std.proofs.lemmas.Slice.Eq.{bytes_eq-Decides}
use Rattle.std.proofs.lemmas.Bool.Decides.{Decides-and, Decides-eqb, Decides-like}
use Rattle.claims.specs.declared.kinds.Bytes.{Bytes}
use Rattle.claims.specs.Bytes.{bounded, kept_from, content, same}
use Rattle.claims.specs.Limits.{Holds}

-- what is kept of bytes are those bytes
pub content_kept : (N : ℕ) (xs : List ℕ) → content (bounded N xs) ≡ xs
content_kept N xs = take_at xs (replicate (N - length xs) 0) (length xs) refl

places_back : (N : ℕ) (a b : Bytes N) (xs ys : List ℕ) → a ≡ bounded N xs → b ≡ bounded N ys
    → (a.len ≡ b.len) × (a.places ≡ b.places) → xs ≡ ys
places_back N a b xs ys p q h =
    let e : content a ≡ content b = ap (λ (n : ℕ). take n a.places) h.0 ∙ ap (λ (l : List ℕ). take b.len l) h.1 in
    sym (content_kept N xs) ∙ sym (ap (λ (s : Bytes N). content s) p) ∙ e ∙ ap (λ (s : Bytes N). content s) q ∙ content_kept N ys

places_forth : (N : ℕ) (a b : Bytes N) (xs ys : List ℕ) → a ≡ bounded N xs → b ≡ bounded N ys
    → xs ≡ ys → (a.len ≡ b.len) × (a.places ≡ b.places)
places_forth N a b xs ys p q e =
    let same : a ≡ b = p ∙ ap (bounded N) e ∙ sym q in
    (ap (λ (s : Bytes N). s.len) same, ap (λ (s : Bytes N). s.places) same)

-- two kept strings are the same exactly when their bytes are
pub same_decides : (N : ℕ) (a b : Bytes N) (xs ys : List ℕ) → a ≡ bounded N xs → b ≡ bounded N ys → Decides (same a b) (xs ≡ ys)
same_decides N a b xs ys p q =
    Decides-like _ (places_back N a b xs ys p q) (places_forth N a b xs ys p q)
    (Decides-and _ _ (Decides-eqb a.len b.len) (bytes_eq-Decides a.places b.places))

-- bytes within their limits are kept within them
pub holds_kept : (N least : ℕ) (xs : List ℕ) → least ≤ length xs → length xs ≤ N → Holds least (bounded N xs)
holds_kept N least xs enough few =
    let P : List ℕ → Type 0 = λ ys. (leb least (length ys) && leb (length ys) N && same (bounded N xs) (bounded N ys)) ≡ true in
    subst P (sym (content_kept N xs))
    (and_from _ _ (and_from _ _ (le-leb least (length xs) enough) (le-leb (length xs) N few))
    ((same_decides N (bounded N xs) (bounded N xs) xs xs refl refl).1 refl))

-- an answer that is there only where a test holds
pub some_if : {A : Type 0} (b : Bool) (x y : A) → cond b (Some x) None ≡ Some y → (b ≡ true) × (x ≡ y)
some_if true x y e = (refl, grind arith)
some_if false x y e = absurd (grind arith)

-- what was kept, and that it is within its limits
pub kept_from_lem : (N least : ℕ) (xs : List ℕ) (s : Bytes N) → kept_from N least xs ≡ Some s → (bounded N xs ≡ s) × (least ≤ length xs) × (length xs ≤ N)
kept_from_lem N least xs s e =
    let p = some_if (leb least (length xs) && leb (length xs) N) (bounded N xs) s e in
    let q = and_parts (leb least (length xs)) (leb (length xs) N) p.0 in
    (p.1, leb-true _ _ q.0, leb-true _ _ q.1)

-- bytes within their limits are kept
pub kept_within : (N least : ℕ) (xs : List ℕ) → least ≤ length xs → length xs ≤ N → kept_from N least xs ≡ Some (bounded N xs)
kept_within N least xs enough few =
    cond-true _ _ _ (and_from _ _ (le-leb least (length xs) enough) (le-leb (length xs) N few))

pub kept_holds : (N least : ℕ) (xs : List ℕ) (s : Bytes N) → kept_from N least xs ≡ Some s → Holds least s
kept_holds N least xs s e =
    let k = kept_from_lem N least xs s e in
    let P : Bytes N → Type 0 = λ t. Holds least t in
    subst P k.0 (holds_kept N least xs k.1 k.2)
