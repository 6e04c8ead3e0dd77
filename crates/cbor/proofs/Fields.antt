use Rattle.std.proofs.Common.{◌≡◌, ℕ, Bool, true, cond, eqb, List, Ok, Err, sym, refl, subst, inl, inr, arith}
use Rattle.std.proofs.lemmas.Bool.{eqb-true}
use Rattle.refusals.specs.Reading.{need}
use Rattle.refusals.specs.declared.Refusal.{Refusal}
use Rattle.refusals.proofs.Outcomes.{keeps_back, need_back, cond_back}
use Rattle.parts.specs.Parts.{Piece}
use Rattle.parts.specs.declared.kinds.Read.{Read}
use Rattle.cbor.specs.Scalars.{Rule, stores}
use Rattle.cbor.specs.Reads.{Begins, Reads}
use Rattle.cbor.proofs.Joins.{begins_as}

-- the fields of a map by their keys: what is read under a key was written under it

-- what a rule reads was written
abbrev pub Back : {A : Type 0} → Rule A → (A → List ℕ → Type 0) → Type 0
Back {A} rule Kind = (p : Piece) (x : Read A) → rule p ≡ Ok x → Begins Kind p x

-- a value that is stored
pub stores_back : {A B : Type 0} {rule : Rule A} {Kind : A → List ℕ → Type 0} {Other : B → List ℕ → Type 0} → Reads rule Kind → (f : A → B)
    → ((y : A) (bs : List ℕ) → Kind y bs → Other (f y) bs) → Back (λ p. stores (rule p) f) Other
stores_back {B = B} {rule = rule} {Kind = Kind} {Other = Other} reads f to p x e =
    let k = keeps_back (rule p) _ x e in
    subst (λ (z : Read B). Begins Other p z) k.2
    (begins_as Kind Other p k.0 (record { value = f k.0.value; size = k.0.size }) (to k.0.value) refl (reads.read p k.0 k.1))

-- a value that may stand only where a test holds
pub need_field : {A : Type 0} {rule : Rule A} {Kind : A → List ℕ → Type 0} (b : Bool) (e : Refusal) → (b ≡ true → Back rule Kind) → Back (λ p. need b e (rule p)) Kind
need_field {rule = rule} b e back p x k = let n = need_back b e (rule p) x k in back n.0 p x n.1

module _ {F : Type 0} (Field : ℕ → F → List ℕ → Type 0) (key : ℕ) where
  -- the value under the key k, else the other keys
  pub field_next : {rule rest : Rule F} (k : ℕ) → Back rule (Field k) → Back rest (Field key) → Back (λ p. cond (eqb key k) (rule p) (rest p)) (Field key)
  field_next k here next p x e =
      elim (cond_back (eqb key k) _ _ _ e) [
        | inl a ↦ subst (λ (i : ℕ). Begins (Field i) p x) (sym (eqb-true key k a.0)) (here p x a.1)
        | inr a ↦ next p x a.1
      ]

  -- no other keys
  pub field_none : (e : Refusal) → Back (λ p. Err e) (Field key)
  field_none e p x k = absurd (grind arith)
