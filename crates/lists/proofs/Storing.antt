use Rattle.std.proofs.Common.{◌≡◌, ℕ, ◌+◌, ◌<◌, ◌≤◌, min, Bool, true, false, leb, List, [], ◌∷◌, ◌++◌, length, get_or, take, set, Some, None, Option, sym, refl, ap, ◌∙◌, subst, ⊎_elim, arith}
use Rattle.std.proofs.lemmas.List.{take_all, set_past, get_or-take, length-take, take_more_set, get_or_append_left, get_or_push, get_or-set_same, get_or-set_other, length_push}
use Rattle.std.proofs.lemmas.Bool.{cases_lt, both_ways, le-leb, lt-leb}
use Rattle.lists.specs.declared.stored.Stored.{Stored}
use Rattle.lists.specs.Finding.{first_of}
use Rattle.lists.specs.Once.{stored_once, places_once, Apart, Once}
use Rattle.lists.proofs.Firsts.{first_from}

-- a count beyond the last place holds all places
pub held_same : {E : Type 0} (xs : List E) (n m : ℕ) → m ≡ min n (length xs) → take m xs ≡ take n xs
held_same xs n m e =
    ⊎_elim
    (λ (l : n < length xs). let q : m ≡ n = omega arith in ap (λ k. take k xs) q)
    (λ (l : length xs ≤ n). take_all m xs (omega arith) ∙ sym (take_all n xs l))
    (cases_lt n (length xs))

-- one more that is the same as none of them
apart_more : {E : Type 0} (same : E → E → Bool) (x : E) (xs : List E)
    → ((a b : E) → same a b ≡ true → same b a ≡ true)
    → first_of (λ y. same y x) xs ≡ None → Apart same xs → Apart same (xs ++ x ∷ [])
apart_more {E} same x xs symmetric none apart i j d hi hj e =
    let long = length_push xs x in
    ⊎_elim
    (λ (li : i < length xs).
    ⊎_elim
    (λ (lj : j < length xs).
    apart i j d li lj (sym (ap (λ u. same u (get_or xs j d)) (get_or_append_left xs (x ∷ []) d i li)) ∙ sym (ap (λ u. same (get_or (xs ++ x ∷ []) i d) u) (get_or_append_left xs (x ∷ []) d j lj)) ∙ e))
    (λ (gj : length xs ≤ j).
    absurd (new i li (sym (ap (λ u. same u x) (get_or_append_left xs (x ∷ []) d i li)) ∙ sym (ap (same (get_or (xs ++ x ∷ []) i d)) (get_or_push xs x d j (omega arith))) ∙ e)))
    (cases_lt j (length xs)))
    (λ (gi : length xs ≤ i).
    ⊎_elim
    (λ (lj : j < length xs).
    absurd (new j lj (sym (ap (λ u. same u x) (get_or_append_left xs (x ∷ []) d j lj)) ∙ symmetric _ _ (sym (ap (λ u. same u (get_or (xs ++ x ∷ []) j d)) (get_or_push xs x d i (omega arith))) ∙ e))))
    (λ (gj : length xs ≤ j). omega arith)
    (cases_lt j (length xs)))
    (cases_lt i (length xs))
  where
    new : (k : ℕ) → k < length xs → same (get_or xs k d) x ≡ true → ⊥
    new k l t = both_ways (same (get_or xs k d) x) (first_from (λ y. same y x) xs None (sym none) k d (omega arith) l) t

-- the answer r and the places ys after x is stored once
abbrev pub Stores : {E : Type 0} → (E → E → Bool) → E → ℕ → List E → List E → Option Stored → Type 0
Stores same x n xs ys r = (r ≡ stored_once same (length xs) x (take n xs)) × (ys ≡ places_once same x n xs) × Once same x n xs ys r

-- one stands that is the same
pub stood : {E : Type 0} (same : E → E → Bool) (x : E) (xs : List E) (n m i : ℕ) → m ≡ min n (length xs)
    → Some i ≡ first_of (λ y. same y x) (take m xs) → Stores same x n xs xs (Some (record { place = i; count = m }))
stood same x xs n m i e p =
    let h : take m xs ≡ take n xs = held_same xs n m e in
    let long : length (take n xs) ≡ m = length-take n xs ∙ sym e in
    let q : first_of (λ y. same y x) (take n xs) ≡ Some i = ap (first_of (λ y. same y x)) (sym h) ∙ sym p in
    let first = first_from (λ y. same y x) (take m xs) (Some i) p in
    let known : length (take m xs) ≡ m = ap length h ∙ long in
    let fits : leb m (length xs) ≡ true = le-leb _ _ (omega arith) in (
      simp (q, long, fits),
      simp q,
      record {
        held = simp q h;
        stands = (omega arith, λ d. sym (ap (λ y. same y x) (get_or-take m xs i d (omega arith))) ∙ first.1 d);
        others = λ k d ne. refl;
        refused = λ z. absurd (both_ways true z refl);
        apart = λ a. subst (Apart same) (sym h) a;
      },
    )

-- none is the same, and there is no place
pub full : {E : Type 0} (same : E → E → Bool) (x : E) (xs : List E) (n m : ℕ) → m ≡ min n (length xs) → m ≡ length xs
    → None ≡ first_of (λ y. same y x) (take m xs) → Stores same x n xs xs None
full same x xs n m e all p =
    let h : take m xs ≡ take n xs = held_same xs n m e in
    let long : length (take n xs) ≡ m = length-take n xs ∙ sym e in
    let q : first_of (λ y. same y x) (take n xs) ≡ None = ap (first_of (λ y. same y x)) (sym h) ∙ sym p in
    let longer = length_push (take n xs) x in
    let fits : leb (length (take n xs ++ x ∷ [])) (length xs) ≡ false = lt-leb _ _ (omega arith) in (
      simp (q, fits),
      simp q (sym (set_past xs (length (take n xs)) x (omega arith))),
      record {
        held = tt;
        stands = tt;
        others = λ k d ne. refl;
        refused = λ z. refl;
        apart = λ a. tt;
      },
    )

-- none is the same, and x is put behind them
pub put : {E : Type 0} (same : E → E → Bool) (x : E) (xs : List E) (n m : ℕ) → m ≡ min n (length xs) → m < length xs
    → ((a : E) → same a a ≡ true) → ((a b : E) → same a b ≡ true → same b a ≡ true)
    → None ≡ first_of (λ y. same y x) (take m xs) → Stores same x n xs (set xs m x) (Some (record { place = m; count = m + 1 }))
put same x xs n m e room reflexive symmetric p =
    let h : take m xs ≡ take n xs = held_same xs n m e in
    let long : length (take n xs) ≡ m = length-take n xs ∙ sym e in
    let q : first_of (λ y. same y x) (take n xs) ≡ None = ap (first_of (λ y. same y x)) (sym h) ∙ sym p in
    let longer : length (take n xs ++ x ∷ []) ≡ m + 1 = length_push (take n xs) x ∙ ap (λ k. k + 1) long in
    let fits : leb (m + 1) (length xs) ≡ true = le-leb _ _ (omega arith) in
    let now : take (m + 1) (set xs m x) ≡ take n xs ++ x ∷ [] = take_more_set xs m x room ∙ ap (λ l. l ++ x ∷ []) h in (
      simp (q, longer, fits, long),
      simp (q, long),
      record {
        held = simp q now;
        stands = (omega arith, λ d. ap (λ y. same y x) (get_or-set_same xs m x d room) ∙ reflexive x);
        others = λ k d ne. get_or-set_other xs m k x d (λ z. ne (z ∙ sym long));
        refused = λ z. absurd (both_ways true z refl);
        apart = λ a. subst (Apart same) (sym now) (apart_more same x (take n xs) symmetric q a);
      },
    )
