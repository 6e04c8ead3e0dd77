use Rattle.std.specs.Prelude.{◌≡◌, ℕ, suc, ◌<◌, Bool, true, false, cond, List, [], ◌∷◌, length, Some, None, Option}
use Rattle.std.specs.Option.{option_map}
use Rattle.std.specs.List.{HoldsAt, AllWithin}

-- the place of the first element that passes a test
abbrev pub first_of : {E : Type 0} → (E → Bool) → List E → Option ℕ
first_of f [] = None
first_of f (x ∷ xs) = cond (f x) (Some 0) (option_map suc (first_of f xs))

-- what that says: no element passes, or the one at i does, and none before it
abbrev pub First : {E : Type 0} → (E → Bool) → List E → Option ℕ → Type 0
First f xs None = AllWithin (λ x. f x ≡ false) xs 0 (length xs)
First f xs (Some i) = (i < length xs) × HoldsAt (λ x. f x ≡ true) xs i × AllWithin (λ x. f x ≡ false) xs 0 i
