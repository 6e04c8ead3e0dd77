use Rattle.std.proofs.Common.{◌≡◌, ℕ, zero, suc, ◌+◌, ◌<◌, ◌≤◌, true, false, length, Ok, Err, sym, refl, ◌∙◌, arith}
use Rattle.std.proofs.lemmas.List.{length-drop}
use Rattle.std.proofs.lemmas.Bool.{cond-true, cond-false, eq-eqb, ne_eqb, eqb-true}
use Rattle.std.proofs.lemmas.Bool.Decides.{nat_tests}
use Rattle.refusals.specs.Reading.{onward}
use Rattle.refusals.specs.declared.Refusal.{Refusal}
use Rattle.parts.specs.declared.kinds.Read.{Read}
use Rattle.parts.specs.Parts.{Piece, after, none}
use Rattle.parts.specs.Holders.{Element, elements, elements_in}
use Rattle.parts.specs.Reads.{IsWithin}

pub none_false : (p : Piece) → none p ≡ false → 0 < length p.bytes
none_false p e = grind (arith, nat_tests)

pub none_true : (p : Piece) → none p ≡ true → length p.bytes ≡ 0
none_true p e = eqb-true (length p.bytes) 0 e

module _ {S : Type 0} (element : Element S) where
  pub elements_more : (n : ℕ) (s : S) (p : Piece) → 0 < length p.bytes
      → elements element (suc n) s p ≡ onward (element s p) (λ r. elements element n r.value (after r.size p))
  elements_more n s p h = cond-false _ _ _ (ne_eqb (length p.bytes) 0 (λ e. omega arith))

  pub elements_none : (n : ℕ) (s : S) (p : Piece) → length p.bytes ≡ 0 → elements element n s p ≡ Ok s
  elements_none zero s p e = refl
  elements_none (suc n) s p e = cond-true _ _ _ (eq-eqb (length p.bytes) 0 e)

  -- how far a walk over the elements has come: those of the rest are still to come, with steps enough
  pub record Walked (start : S) (p rest : Piece) (s : S) : Type 0 where
    pub steps : ℕ
    pub enough : length rest.bytes ≤ steps
    pub whole : elements_in element start p ≡ elements element steps s rest

  module _ (start : S) (p rest : Piece) (s : S) (inside : 0 < length rest.bytes) where
    first : (steps : ℕ) → length rest.bytes ≤ steps
        → (k : ℕ) × (length rest.bytes ≤ 1 + k) × (elements element steps s rest ≡ onward (element s rest) (λ r. elements element k r.value (after r.size rest)))
    first zero h = absurd (omega arith)
    first (suc k) h = (k, omega arith, elements_more k s rest inside)

    pub walk_goes : (x : Read S) → Ok x ≡ element s rest → IsWithin rest x → Walked start p rest s → Walked start p (after x.size rest) x.value
    walk_goes x found within w =
        let f = first w.steps w.enough in
        record {
          steps = f.0;
          enough = rw length-drop (omega (arith, f.1, within.0));
          whole = w.whole ∙ f.2 ∙ rw (← found);
        }

    pub walk_stops : (e : Refusal) → Err e ≡ element s rest → Walked start p rest s → Err e ≡ elements_in element start p
    walk_stops e found w = let f = first w.steps w.enough in sym (w.whole ∙ f.2 ∙ rw (← found))

  pub walk_ends : (start : S) (p rest : Piece) (s : S) → length rest.bytes ≡ 0 → Walked start p rest s → Ok s ≡ elements_in element start p
  walk_ends start p rest s empty w = sym (w.whole ∙ elements_none w.steps s rest empty)
