use Rattle.std.proofs.Common.{◌≡◌, ℕ, zero, suc, ◌<◌, ◌≤◌, Bool, true, false, List, [], ◌∷◌, length, get_or, is_some, Some, None, Decides, Option, sym, refl, ap, ◌∙◌, subst, ⊎_elim, arith}
use Rattle.std.specs.Option.{option_map}
use Rattle.std.specs.List.{ContainsAt as Has}
use Rattle.std.proofs.ByRecursion.{has_get_or}
use Rattle.std.proofs.lemmas.Bool.{cases_lt, cond_both, both_ways, false≢true}
use Rattle.lists.specs.Finding.{first_of, First}

-- the first that passes, with one more before it that does not
first_more : {E : Type 0} (f : E → Bool) (x : E) (xs : List E) (o : Option ℕ) → f x ≡ false → First f xs o → First f (x ∷ xs) (option_map suc o)
first_more {E} f x xs None fails h = every
  where
    every : (k : ℕ) (d : E) → 0 ≤ k → k < suc (length xs) → f (get_or (x ∷ xs) k d) ≡ false
    every zero d l b = fails
    every (suc k) d l b = h k d (omega arith) (omega arith)
first_more {E} f x xs (Some i) fails h = (omega (arith, h.0), h.1, every)
  where
    every : (k : ℕ) (d : E) → 0 ≤ k → k < suc i → f (get_or (x ∷ xs) k d) ≡ false
    every zero d l b = fails
    every (suc k) d l b = h.2 k d (omega arith) (omega arith)

-- what `first_of` gives is the first
pub first_law : {E : Type 0} (f : E → Bool) (xs : List E) → First f xs (first_of f xs)
first_law f [] = λ k d l b. absurd (omega arith)
first_law f (x ∷ xs) =
    cond_both (f x) (Some 0) (option_map suc (first_of f xs)) (First f (x ∷ xs))
    (λ e. (omega arith, (λ d. e), λ k d l b. absurd (omega arith)))
    (λ e. first_more f x xs (first_of f xs) e (first_law f xs))

-- only one answer is the first
same_first : {E : Type 0} (f : E → Bool) (xs : List E) (r s : Option ℕ) → First f xs r → First f xs s → r ≡ s
same_first f xs None None h k = refl
same_first f [] (Some i) s h k = absurd (omega (arith, h.0))
same_first f [] None (Some j) h k = absurd (omega (arith, k.0))
same_first f (x ∷ xs) (Some i) None h k = absurd (both_ways (f (get_or (x ∷ xs) i x)) (k i x (omega arith) h.0) (h.1 x))
same_first f (x ∷ xs) None (Some j) h k = absurd (both_ways (f (get_or (x ∷ xs) j x)) (h j x (omega arith) k.0) (k.1 x))
same_first f (x ∷ xs) (Some i) (Some j) h k =
    ⊎_elim
    (λ (l : i < j). absurd (both_ways (f (get_or (x ∷ xs) i x)) (k.2 i x (omega arith) l) (h.1 x)))
    (λ (l : j ≤ i).
    ⊎_elim
    (λ (m : j < i). absurd (both_ways (f (get_or (x ∷ xs) j x)) (h.2 j x (omega arith) m) (k.1 x)))
    (λ (m : i ≤ j). let e : i ≡ j = omega arith in ap (λ (n : ℕ). Some n) e)
    (cases_lt j i))
    (cases_lt i j)

pub first_only : {E : Type 0} (f : E → Bool) (xs : List E) (r : Option ℕ) → First f xs r → r ≡ first_of f xs
first_only f xs r h = same_first f xs r (first_of f xs) h (first_law f xs)

-- an answer that is the first is one by the law too
pub first_from : {E : Type 0} (f : E → Bool) (xs : List E) (r : Option ℕ) → r ≡ first_of f xs → First f xs r
first_from f xs r e = subst (First f xs) (sym e) (first_law f xs)

some_forth : {E : Type 0} (f : E → Bool) (xs : List E) (o : Option ℕ) → First f xs o → is_some o ≡ true → (x : E) × Has xs x × (f x ≡ true)
some_forth f xs None h e = absurd (false≢true e)
some_forth f [] (Some i) h e = absurd (omega (arith, h.0))
some_forth f (x ∷ xs) (Some i) h e = (get_or (x ∷ xs) i x, has_get_or (x ∷ xs) i x h.0, h.1 x)

some_back : {E : Type 0} (f : E → Bool) (xs : List E) (o : Option ℕ) → First f xs o → (x : E) × Has xs x × (f x ≡ true) → is_some o ≡ true
some_back f xs None h s =
    let at = s.1 in
    absurd (both_ways (f s.0) (sym (ap f (at.2 s.0)) ∙ h at.0 s.0 (omega arith) at.1) s.2)
some_back f xs (Some i) h s = refl

-- there is a first exactly when some element passes
pub first_some : {E : Type 0} (f : E → Bool) (xs : List E) → Decides (is_some (first_of f xs)) ((x : E) × Has xs x × (f x ≡ true))
first_some f xs = (some_forth f xs (first_of f xs) (first_law f xs), some_back f xs (first_of f xs) (first_law f xs))
