use Rattle.std.proofs.Common.{◌≡◌, ℕ, zero, suc, ◌+◌, min, List, [], ◌++◌, length, drop, Ok, Err, sym, refl, ap, ◌∙◌, append_assoc, arith}
use Rattle.std.proofs.lemmas.List.{drop-drop, length-drop, append-nil}
use Rattle.refusals.specs.Reading.{Outcome, onward, keeps}
use Rattle.parts.specs.Holders.{Element}
use Rattle.parts.specs.Parts.{Piece, after}
use Rattle.parts.specs.declared.kinds.Read.{Read}
use Rattle.cbor.specs.Holders.{counted_from}
use Rattle.cbor.specs.Scalars.{Rule, stores}
use Rattle.cbor.proofs.Strings.{onward_keeps}
use Rattle.manifests.specs.Triples.{collects}

-- what was found, by two uses in a row

pub keeps_twice : {A B C : Type 0} (r : Outcome A) (f : A → B) (g : B → C) (h : A → C) → ((x : A) → g (f x) ≡ h x) → keeps (keeps r f) g ≡ keeps r h
keeps_twice (Ok x) f g h e = ap (λ y. Ok y) (e x)
keeps_twice (Err e) f g h k = refl

pub keeps_same : {A : Type 0} (r : Outcome A) (f : A → A) → ((x : A) → f x ≡ x) → keeps r f ≡ r
keeps_same (Ok x) f e = ap (λ y. Ok y) (e x)
keeps_same (Err e) f k = refl

pub onward_same : {A B : Type 0} (r : Outcome A) (f g : A → Outcome B) → ((x : A) → f x ≡ g x) → onward r f ≡ onward r g
onward_same (Ok x) f g e = e x
onward_same (Err e) f g k = refl

pub onward_twice : {A B C : Type 0} (r : Outcome A) (f : A → Outcome B) (g : B → Outcome C) → onward (onward r f) g ≡ onward r (λ x. onward (f x) g)
onward_twice (Ok x) f g = refl
onward_twice (Err e) f g = refl

pub keeps_onward : {A B C : Type 0} (r : Outcome A) (f : A → Outcome B) (g : B → C) → keeps (onward r f) g ≡ onward r (λ x. keeps (f x) g)
keeps_onward (Ok x) f g = refl
keeps_onward (Err e) f g = refl

-- a part behind a part behind a part
pub after_twice : (i k : ℕ) (p : Piece) → after k (after i p) ≡ after (i + k) p
after_twice i k p =
    let l = length-drop i p.bytes in
    let e : p.at + min i (length p.bytes) + min k (length (drop i p.bytes)) ≡ p.at + min (i + k) (length p.bytes) = omega arith in
    ap (λ (j : ℕ). record { at = j; bytes = drop k (drop i p.bytes) }) e
    ∙ ap (λ (b : List ℕ). record { at = p.at + min (i + k) (length p.bytes); bytes = b }) (drop-drop k i p.bytes)

-- the same with so many bytes more
abbrev pub grown : {S : Type 0} → ℕ → Outcome (Read S) → Outcome (Read S)
grown j r = keeps r (λ x. record { value = x.value; size = j + x.size })

-- elements are read alike from the beginning of a part and from behind its first bytes
pub counted_behind : {S : Type 0} (element : Element S) (n : ℕ) (s : S) (j k : ℕ) (p : Piece) → grown j (counted_from element n s k (after j p)) ≡ counted_from element n s (j + k) p
counted_behind element zero s j k p = refl
counted_behind {S = S} element (suc n) s j k p =
    keeps_onward (element s (after k (after j p))) _ _
    ∙ onward_same (element s (after k (after j p))) _ _ (λ x. counted_behind element n x.value j (k + x.size) p ∙ ap (λ (i : ℕ). counted_from element n x.value i p) (omega arith))
    ∙ ap (λ (q : Piece). onward (element s q) (λ r. counted_from element n r.value (j + k + r.size) p)) (after_twice j k p)

-- elements that are read alike from a view of what came before them
pub counted_view : {S : Type 0} (element : Element S) (view : S → S) → ((s : S) (p : Piece) → element (view s) p ≡ stores (element s p) view)
    → (n : ℕ) (s : S) (used : ℕ) (p : Piece) → counted_from element n (view s) used p ≡ stores (counted_from element n s used p) view
counted_view element view e zero s used p = refl
counted_view element view e (suc n) s used p =
    ap (λ (r : Outcome (Read _)). onward r (λ x. counted_from element n x.value (used + x.size) p)) (e s (after used p))
    ∙ onward_keeps (element s (after used p)) _ _
    ∙ onward_same (element s (after used p)) _ _ (λ x. counted_view element view e n x.value (used + x.size) p)
    ∙ sym (keeps_onward (element s (after used p)) _ _)

module _ {A : Type 0} (rule : Rule (List A)) where
  pub collects_front : (xs ys : List A) (p : Piece) → collects rule (xs ++ ys) p ≡ stores (collects rule ys p) (λ zs. xs ++ zs)
  collects_front xs ys p = sym (keeps_twice (rule p) _ _ _ (λ x. ap (λ (l : List A). record { value = l; size = x.size }) (sym (append_assoc xs ys x.value))))

  -- a row of elements behind a list is that list and the row
  pub counted_front : (n : ℕ) (xs : List A) (used : ℕ) (p : Piece)
      → counted_from (collects rule) n xs used p ≡ stores (counted_from (collects rule) n [] used p) (λ ys. xs ++ ys)
  counted_front n xs used p =
      ap (λ (l : List A). counted_from (collects rule) n l used p) (sym (append-nil xs))
      ∙ counted_view (collects rule) (λ ys. xs ++ ys) (collects_front xs) n [] used p

  -- the first of a row of elements, and the others
  pub counted_first : (n used : ℕ) (p : Piece)
      → counted_from (collects rule) (suc n) [] used p ≡ onward (rule (after used p)) (λ x. stores (counted_from (collects rule) n [] (used + x.size) p) (λ ys. x.value ++ ys))
  counted_first n used p =
      onward_keeps (rule (after used p)) _ _
      ∙ onward_same (rule (after used p)) _ _ (λ x. counted_front n x.value (used + x.size) p)

-- what is left behind a list, by what is left behind the elements
pub front_onward : {A : Type 0} (r : Outcome (Read (List A))) (xs : List A) (rest : ℕ → Outcome (List A))
    → onward (stores r (λ ys. xs ++ ys)) (λ x. keeps (rest x.size) (λ zs. x.value ++ zs)) ≡ keeps (onward r (λ x. keeps (rest x.size) (λ zs. x.value ++ zs))) (λ zs. xs ++ zs)
front_onward (Err e) xs rest = refl
front_onward (Ok x) xs rest = sym (keeps_twice (rest x.size) _ _ _ (λ zs. sym (append_assoc xs x.value zs)))
