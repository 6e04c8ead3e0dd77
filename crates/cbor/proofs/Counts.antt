use Rattle.std.proofs.Common.{◌≡◌, ℕ, zero, suc, ◌+◌, ◌-◌, ◌<◌, ◌≤◌, length, Ok, Err, sym, refl, ap, ◌∙◌, arith}
use Rattle.refusals.specs.Reading.{onward}
use Rattle.refusals.specs.declared.Refusal.{Refusal}
use Rattle.parts.specs.Holders.{Element}
use Rattle.parts.specs.Parts.{Piece, after}
use Rattle.parts.specs.declared.kinds.Read.{Read}
use Rattle.cbor.specs.Holders.{counted_from}

module _ {S : Type 0} (element : Element S) where
  -- where elements are left, the first of them comes next
  pub counted_more : (n : ℕ) (s : S) (used : ℕ) (p : Piece) → 0 < n
      → counted_from element n s used p ≡ onward (element s (after used p)) (λ r. counted_from element (n - 1) r.value (used + r.size) p)
  counted_more zero s used p h = absurd (omega arith)
  counted_more (suc n) s used p h = ap (λ (k : ℕ). onward (element s (after used p)) (λ r. counted_from element k r.value (used + r.size) p)) (omega arith)

  pub counted_none : (n : ℕ) (s : S) (used : ℕ) (p : Piece) → n ≡ 0 → counted_from element n s used p ≡ Ok (record { value = s; size = used })
  counted_none zero s used p e = refl
  counted_none (suc n) s used p e = absurd (omega arith)

  -- some elements were read, and so many are left
  pub record Counting (head : Read ℕ) (start : S) (p : Piece) (left : ℕ) (found : Read S) : Type 0 where
    pub whole : counted_from element head.value start head.size p ≡ counted_from element left found.value found.size p
    pub above : head.size ≤ found.size
    pub within : found.size ≤ length p.bytes

  module _ (head : Read ℕ) (start : S) (p : Piece) (left : ℕ) (found : Read S) (some : 0 < left) (c : Counting head start p left found) where
    pub counting_more : (x y : Read S) → Ok x ≡ element found.value (after found.size p) → x.size ≤ length p.bytes - found.size → y.value ≡ x.value → y.size ≡ found.size + x.size
        → Counting head start p (left - 1) y
    counting_more x y is fits value size = record {
      whole = c.whole ∙ counted_more left found.value found.size p some ∙ rw (← is) (rw (value, size) refl);
      above = omega (arith, c.above);
      within = omega (arith, c.within);
    }

    pub counting_stops : (e : Refusal) → Err e ≡ element found.value (after found.size p) → Err e ≡ counted_from element head.value start head.size p
    counting_stops e is = sym (c.whole ∙ counted_more left found.value found.size p some ∙ rw (← is))
