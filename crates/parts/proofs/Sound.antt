use Rattle.std.proofs.Common.{◌≡◌, ℕ, zero, suc, Bool, true, false, cond, eqb, length, IfOk, IfErr, Some, None, Ok, Err, Option, refl, MatchResult}
use Rattle.refusals.specs.Figures.{OfReader}
use Rattle.refusals.specs.Reading.{Outcome, onward, keeps, need, or_refuse}
use Rattle.refusals.specs.declared.Refusal.{Refusal}
use Rattle.parts.specs.Parts.{Piece, after}
use Rattle.parts.specs.Holders.{Element, elements}
use Rattle.parts.specs.declared.kinds.Read.{Read}

-- what was found has a property, or a reader refused
abbrev pub Sound : {A : Type 0} → (A → Type 0) → Outcome A → Type 0
Sound P r = MatchResult r P OfReader

pub sound_onward : {A B : Type 0} (P : A → Type 0) (Q : B → Type 0) (r : Outcome A) (f : A → Outcome B) → Sound P r → ((x : A) → P x → Sound Q (f x)) → Sound Q (onward r f)
sound_onward P Q (Ok x) f h k = k x h
sound_onward P Q (Err e) f h k = h

pub sound_keeps : {A B : Type 0} (P : A → Type 0) (Q : B → Type 0) (r : Outcome A) (f : A → B) → Sound P r → ((x : A) → P x → Q (f x)) → Sound Q (keeps r f)
sound_keeps P Q (Ok x) f h k = k x h
sound_keeps P Q (Err e) f h k = h

pub sound_need : {A : Type 0} (P : A → Type 0) (b : Bool) (e : Refusal) (r : Outcome A) → OfReader e → (b ≡ true → Sound P r) → Sound P (need b e r)
sound_need P true e r o h = h refl
sound_need P false e r o h = o

pub sound_or_refuse : {A B : Type 0} (Q : B → Type 0) (o : Option A) (e : Refusal) (f : A → Outcome B) → OfReader e → ((x : A) → o ≡ Some x → Sound Q (f x)) → Sound Q (or_refuse o e f)
sound_or_refuse Q None e f o h = o
sound_or_refuse Q (Some x) e f o h = h x refl

pub sound_cond : {A : Type 0} (P : A → Type 0) (b : Bool) (r s : Outcome A) → Sound P r → Sound P s → Sound P (cond b r s)
sound_cond P true r s h k = h
sound_cond P false r s h k = k

-- what each element keeps, a row of them keeps
pub sound_elements : {S : Type 0} (P : S → Type 0) (element : Element S) → ((s : S) (p : Piece) → P s → Sound (λ (x : Read S). P x.value) (element s p))
    → (n : ℕ) (s : S) (p : Piece) → P s → Sound P (elements element n s p)
sound_elements P element each zero s p h = h
sound_elements {S = S} P element each (suc n) s p h =
    sound_cond P (eqb (length p.bytes) 0) (Ok s) _ h
    (sound_onward (λ (x : Read S). P x.value) P (element s p) (λ r. elements element n r.value (after r.size p)) (each s p h)
    (λ x k. sound_elements P element each n x.value (after x.size p) k))

-- the two halves of what is sound
pub sound_made : {A : Type 0} (P : A → Type 0) (r : Outcome A) → Sound P r → IfOk r P
sound_made P (Ok x) h = h
sound_made P (Err e) h = tt

pub sound_refused : {A : Type 0} (P : A → Type 0) (r : Outcome A) → Sound P r → IfErr r OfReader
sound_refused P (Ok x) h = tt
sound_refused P (Err e) h = h
