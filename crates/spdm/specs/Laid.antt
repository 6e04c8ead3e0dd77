use Rattle.std.specs.Prelude.{◌≡◌, ℕ, ◌+◌, ◌<◌, ◌≤◌, ◌&&◌, List, [], ◌∷◌, ◌++◌, length, take, drop, Some, None, Option, ◌==◌, nat_le, refl}
use Rattle.std.proofs.Common.{sym, ap, subst, ◌∙◌, arith}
use Rattle.std.proofs.lemmas.List.{take_at, drop_at, take-append-drop, length-append, length-take-le}
use Rattle.std.proofs.lemmas.Bool.{and_parts, eqb-true, leb-true}
use Rattle.claims.proofs.Kept.{some_if}
use Rattle.spdm.specs.Blocks.{Block, size_at, block_of}
use Rattle.spdm.specs.Layout.{Written, written}
use Rattle.spdm.specs.Laws.{Begins}
use Rattle.spdm.specs.Sizes.{block_found}

pub written_long : (b : Block) (bs : List ℕ) → Written b bs → length bs ≡ 7 + length b.value
written_long _ _ (written p q) = omega arith

-- a block that was written is found
written_found : (b : Block) (bs rest : List ℕ) → Written b bs → block_of (bs ++ rest) ≡ Some b
written_found _ _ rest (written {index = index} {specification = specification} {kind = kind} {a = x} {b = y} {c = z} {d = w} {value = value} p q) =
    let m : List ℕ = index ∷ specification ∷ x ∷ y ∷ kind ∷ z ∷ w ∷ (value ++ rest) in
    let l = length-append value rest in
    block_found m (length value + 3) (length value) (omega arith) (omega arith) (omega arith) refl (omega arith)
    ∙ ap (λ (v : List ℕ). Some (record { index = index; specification = specification; kind = kind; value = v })) (take_at value rest (length value) refl)

pub begins_found : (m : List ℕ) (b : Block) → Begins m b → block_of m ≡ Some b
begins_found m b g = ap block_of g.whole ∙ written_found b g.bytes g.rest g.written

pub begins_drop : (m : List ℕ) (b : Block) (g : Begins m b) → drop (7 + length b.value) m ≡ g.rest
begins_drop m b g = ap (λ (l : List ℕ). drop (7 + length b.value) l) g.whole ∙ drop_at g.bytes g.rest (7 + length b.value) (written_long b g.bytes g.written)

pub begins_some : (m : List ℕ) (b : Block) → Begins m b → 0 < length m
begins_some m b g = omega (arith, ap length g.whole, length-append g.bytes g.rest, written_long b g.bytes g.written)

nothing : {A : Type 0} (b : Block) → ◌≡◌ {A = Option Block} None (Some b) → A
nothing b e = absurd (grind arith)

-- a block that is found was written
pub found_begins : (m : List ℕ) (b : Block) → block_of m ≡ Some b → Begins m b
found_begins [] b e = nothing b e
found_begins (i ∷ []) b e = nothing b e
found_begins (i ∷ s ∷ []) b e = nothing b e
found_begins (i ∷ s ∷ x ∷ []) b e = nothing b e
found_begins (i ∷ s ∷ x ∷ y ∷ []) b e = nothing b e
found_begins (i ∷ s ∷ x ∷ y ∷ k ∷ []) b e = nothing b e
found_begins (i ∷ s ∷ x ∷ y ∷ k ∷ z ∷ []) b e = nothing b e
found_begins (i ∷ s ∷ x ∷ y ∷ k ∷ z ∷ w ∷ v) b e =
    let m : List ℕ = i ∷ s ∷ x ∷ y ∷ k ∷ z ∷ w ∷ v in
    let n : ℕ = size_at m 5 in
    let c : Block = record { index = i; specification = s; kind = k; value = take n v } in
    let p = some_if (nat_le 7 (length m) && size_at m 2 == n + 3 && nat_le (7 + n) (length m)) c b e in
    let q = and_parts (nat_le 7 (length m) && size_at m 2 == n + 3) (nat_le (7 + n) (length m)) p.0 in
    let r = and_parts (nat_le 7 (length m)) (size_at m 2 == n + 3) q.0 in
    let fits : n ≤ length v = omega (arith, leb-true _ _ q.1) in
    let long : length (take n v) ≡ n = length-take-le n v fits in
    let P : Block → Type 0 = λ o. Begins m o in
    subst P p.1 (record {
      bytes = i ∷ s ∷ x ∷ y ∷ k ∷ z ∷ w ∷ take n v;
      rest = drop n v;
      written = written (eqb-true _ _ r.1 ∙ ap (λ (j : ℕ). j + 3) (sym long)) (sym long);
      whole = ap (λ (l : List ℕ). i ∷ s ∷ x ∷ y ∷ k ∷ z ∷ w ∷ l) (sym (take-append-drop n v));
    })
