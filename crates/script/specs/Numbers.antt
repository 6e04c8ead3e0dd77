use Rattle.std.specs.Prelude.{ℕ, ◌+◌, ◌-◌, ◌*◌, ◌^◌, Bool, cond, ◌&&◌, List, [], ◌∷◌, length, Some, None, Option, ◌==◌, nat_lt}
use Rattle.std.specs.Char.{is_ascii_digit}
use Rattle.std.specs.Str.{all_ascii_digits}

-- the value of decimal digits after those of n
abbrev pub value_after : ℕ → List ℕ → ℕ
value_after n [] = n
value_after n (c ∷ cs) = value_after (n * 10 + (c - 48)) cs

-- a number below 2^64 where the test holds
abbrev pub small : Bool → ℕ → Option ℕ
small b n = cond (b && nat_lt n (2 ^ 64)) (Some n) None

-- a digit after those of n
abbrev pub digit_after : ℕ → ℕ → Option ℕ
digit_after n c = small (is_ascii_digit c) (n * 10 + (c - 48))

-- a word of one or more digits 0 to 9, of a value below 2^64
abbrev pub number_of : List ℕ → Option ℕ
number_of w = cond (length w == 0) None (small (all_ascii_digits w) (value_after 0 w))
