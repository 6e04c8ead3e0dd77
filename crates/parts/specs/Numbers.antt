use Rattle.std.specs.Prelude.{ℕ, ◌+◌, ◌*◌, cond, List, [], ◌∷◌, length, Some, None, Option, nat_le}

-- the number that bytes write after those of n, high byte first
abbrev pub big_after : ℕ → List ℕ → ℕ
big_after n [] = n
big_after n (x ∷ xs) = big_after (n * 256 + x) xs

abbrev pub big : List ℕ → ℕ
big xs = big_after 0 xs

-- the number of at most eight bytes
abbrev pub big_of : List ℕ → Option ℕ
big_of xs = cond (nat_le (length xs) 8) (Some (big xs)) None
