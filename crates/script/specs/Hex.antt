use Rattle.std.specs.Prelude.{ℕ, ◌+◌, ◌-◌, ◌*◌, ◌/◌, ◌%◌, Bool, cond, ◌&&◌, List, [], ◌∷◌, length, Some, None, codes, Option, ◌==◌, nat_le, nat_lt}
use Rattle.std.specs.List.{flat_map}
use Rattle.std.specs.Str.{bytes_eq}

-- c is one of the characters from lo to hi
abbrev pub among : ℕ → ℕ → ℕ → Bool
among lo hi c = nat_le lo c && nat_le c hi

-- the value of a hex digit, in either case
abbrev pub digit_of : ℕ → Option ℕ
digit_of c =
    cond (among 48 57 c) (Some (c - 48))
    (cond (among 65 70 c) (Some (c - 55))
    (cond (among 97 102 c) (Some (c - 87)) None))

-- the byte of two digits, the high one first
abbrev pub byte_of : Option ℕ → Option ℕ → Option ℕ
byte_of None low = None
byte_of (Some h) None = None
byte_of (Some h) (Some l) = Some (h * 16 + l)

-- a byte before others
abbrev pub before : Option ℕ → Option (List ℕ) → Option (List ℕ)
before None rest = None
before (Some b) None = None
before (Some b) (Some bs) = Some (b ∷ bs)

-- the bytes of pairs of digits
abbrev pub pair_bytes : List ℕ → Option (List ℕ)
pair_bytes [] = Some []
pair_bytes (h ∷ []) = None
pair_bytes (h ∷ l ∷ cs) = before (byte_of (digit_of h) (digit_of l)) (pair_bytes cs)

-- the bytes that a word stands for: at least one pair of digits, or `-` for no bytes
abbrev pub hex_bytes : List ℕ → Option (List ℕ)
hex_bytes w = cond (length w == 0) None (cond (bytes_eq w (codes "-")) (Some []) (pair_bytes w))

-- the digit of a value, in upper case
abbrev pub hex_digit : ℕ → ℕ
hex_digit d = cond (nat_lt d 10) (48 + d) (55 + d)

-- the two digits of a byte
abbrev pub hex_pair : ℕ → List ℕ
hex_pair b = hex_digit (b / 16) ∷ hex_digit (b % 16) ∷ []

-- the word for bytes
abbrev pub hex_text : List ℕ → List ℕ
hex_text bs = cond (length bs == 0) (codes "-") (flat_map hex_pair bs)
