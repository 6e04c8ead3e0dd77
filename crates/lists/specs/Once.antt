use Rattle.std.specs.Prelude.{◌≡◌, ℕ, ◌<◌, Bool, true, false, cond, List, [], ◌∷◌, ◌++◌, length, take, is_some, IfSome, Some, None, Option, ◌≢◌, nat_le, slice_index_or, slice_set}
use Rattle.std.specs.Option.{unwrap_or}
use Rattle.std.specs.List.{HoldsAt}
use Rattle.lists.specs.Finding.{first_of}
use Rattle.lists.specs.declared.stored.Stored.{Stored}

-- the elements with x once: as they are where one is the same as x, else x behind them
abbrev pub with_once : {E : Type 0} → (E → E → Bool) → E → List E → List E
with_once same x xs = cond (is_some (first_of (λ y. same y x) xs)) xs (xs ++ x ∷ [])

-- where x stands then
abbrev pub place_once : {E : Type 0} → (E → E → Bool) → E → List E → ℕ
place_once same x xs = unwrap_or (first_of (λ y. same y x) xs) (length xs)

-- x stored once among elements with room for so many: where it stands, and how many there are then; none where they are full
abbrev pub stored_once : {E : Type 0} → (E → E → Bool) → ℕ → E → List E → Option Stored
stored_once same room x xs =
    cond (nat_le (length (with_once same x xs)) room) (Some (record { place = place_once same x xs; count = length (with_once same x xs) })) None

-- how many are held then, of n
abbrev pub count_after : ℕ → Option Stored → ℕ
count_after n None = n
count_after n (Some s) = s.count

-- all places then, of which the first n were held: x is written behind them where none is the same, and nothing past the last place
abbrev pub places_once : {E : Type 0} → (E → E → Bool) → E → ℕ → List E → List E
places_once same x n xs = cond (is_some (first_of (λ y. same y x) (take n xs))) xs (slice_set xs (length (take n xs)) x)

-- no two elements are the same: where they are, it is one place
abbrev pub Apart : {E : Type 0} → (E → E → Bool) → List E → Type 0
Apart {E} same xs = (i j : ℕ) (d : E) → i < length xs → j < length xs → same (slice_index_or xs i d) (slice_index_or xs j d) ≡ true → i ≡ j

-- what it means to store x once among the first n of xs, with the answer r and the places ys afterwards
pub record Once {E : Type 0} (same : E → E → Bool) (x : E) (n : ℕ) (xs ys : List E) (r : Option Stored) : Type 0 where
  pub held : IfSome r (λ s. take s.count ys ≡ with_once same x (take n xs))
  pub stands : IfSome r (λ s. (s.place < s.count) × HoldsAt (λ y. same y x ≡ true) ys s.place)
  pub others : (k : ℕ) (d : E) → (k ≢ length (take n xs)) → slice_index_or ys k d ≡ slice_index_or xs k d
  pub refused : is_some r ≡ false → ys ≡ xs
  pub apart : Apart same (take n xs) → IfSome r (λ s. Apart same (take s.count ys))
