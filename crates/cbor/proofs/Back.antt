use Rattle.std.proofs.Common.{◌≡◌, ℕ, ◌+◌, ◌*◌, ◌/◌, ◌%◌, ◌<◌, ◌≤◌, Bool, true, false, cond, ◌&&◌, eqb, ltb, leb, List, [], ◌∷◌, ◌++◌, length, take, drop, Some, None, Option, sym, refl, ap, ◌∙◌, subst, inl, inr, arith}
use Rattle.std.proofs.lemmas.List.{length-take-le, take-append-drop}
use Rattle.std.proofs.lemmas.Bool.{and_parts, cond-true, lt-ltb, eqb-true, leb-true, ltb-true}
use Rattle.refusals.proofs.Outcomes.{cond_back, some_same}
use Rattle.claims.proofs.Kept.{some_if}
use Rattle.parts.specs.Numbers.{big}
use Rattle.cbor.specs.declared.kinds.Head.{Head}
use Rattle.cbor.specs.Heads.{long_head, by_info, head_of}
use Rattle.cbor.specs.Encodes.{Width, one, two, four, eight, Headed, inside, behind}

-- what is read was written

-- bytes begin with a head
pub record HeadIs (m : List ℕ) (h : Head) : Type 0 where
  pub bytes : List ℕ
  pub rest : List ℕ
  pub headed : Headed h.major h.argument bytes
  pub whole : m ≡ bytes ++ rest
  pub long : length bytes ≡ h.size

module _ (x : ℕ) (xs : List ℕ) (h : Head) where
  first_is : (info : ℕ) → x % 32 ≡ info → x / 32 * 32 + info ≡ x
  first_is info e = omega arith

  inside_back : x % 32 < 24 → ◌≡◌ {A = Option Head} (Some (record { major = x / 32; argument = x % 32; size = 1 })) (Some h) → HeadIs (x ∷ xs) h
  inside_back l e =
      let P : Head → Type 0 = λ k. HeadIs (x ∷ xs) k in
      let Q : ℕ → Type 0 = λ i. Headed (x / 32) (x % 32) (i ∷ []) in
      subst P (some_same _ h e) (record { bytes = x ∷ []; rest = xs; headed = subst Q (first_is (x % 32) refl) (inside l); whole = refl; long = refl })

  behind_back : (info w least : ℕ) → Width info w least → x % 32 ≡ info → long_head w least (x ∷ xs) ≡ Some h → HeadIs (x ∷ xs) h
  behind_back info w least width i e =
      let p = some_if (leb (1 + w) (length (x ∷ xs)) && leb least (big (take w xs))) _ h e in
      let q = and_parts (leb (1 + w) (length (x ∷ xs))) (leb least (big (take w xs))) p.0 in
      let fits : 1 + w ≤ length (x ∷ xs) = leb-true _ _ q.0 in
      let lw : length (take w xs) ≡ w = length-take-le w xs (omega arith) in
      let P : Head → Type 0 = λ k. HeadIs (x ∷ xs) k in
      let Q : ℕ → Type 0 = λ y. Headed (x / 32) (big (take w xs)) (y ∷ take w xs) in
      subst P p.1 (record {
        bytes = x ∷ take w xs;
        rest = drop w xs;
        headed = subst Q (first_is info i) (behind (take w xs) width lw refl (leb-true _ _ q.1));
        whole = ap (λ (l : List ℕ). x ∷ l) (sym (take-append-drop w xs));
        long = omega arith;
      })

  by_info_back : by_info (x % 32) (x ∷ xs) ≡ Some h → HeadIs (x ∷ xs) h
  by_info_back e =
      elim (cond_back (ltb (x % 32) 24) _ _ _ e) [
        | inl a ↦ inside_back (ltb-true _ _ a.0) a.1
        | inr a ↦ elim (cond_back (eqb (x % 32) 24) _ _ _ a.1) [
          | inl b ↦ behind_back 24 1 24 one (eqb-true _ _ b.0) b.1
          | inr b ↦ elim (cond_back (eqb (x % 32) 25) _ _ _ b.1) [
            | inl c ↦ behind_back 25 2 256 two (eqb-true _ _ c.0) c.1
            | inr c ↦ elim (cond_back (eqb (x % 32) 26) _ _ _ c.1) [
              | inl d ↦ behind_back 26 4 65536 four (eqb-true _ _ d.0) d.1
              | inr d ↦
                  let p = some_of (eqb (x % 32) 27) _ h d.1 in
                  behind_back 27 8 4294967296 eight (eqb-true _ _ p.0) p.1
            ]
          ]
        ]
      ]
    where
      some_of : {A : Type 0} (b : Bool) (o : Option A) (y : A) → cond b o None ≡ Some y → (b ≡ true) × (o ≡ Some y)
      some_of true o y k = (refl, k)
      some_of false o y k = absurd (grind arith)

pub head_back : (m : List ℕ) (h : Head) → head_of m ≡ Some h → HeadIs m h
head_back [] h e = absurd (grind arith)
head_back (x ∷ xs) h e = by_info_back x xs h (sym (cond-true _ _ _ (lt-ltb 0 (length (x ∷ xs)) (omega arith))) ∙ e)
