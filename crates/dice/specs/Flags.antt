use Rattle.std.specs.Prelude.{ℕ, ◌+◌, ◌-◌, ◌/◌, ◌%◌, ◌^◌, Bool, false, cond, not, ◌&&◌, ◌||◌, List, [], ◌∷◌, length, Some, None, Ok, Option, ◌==◌, nat_le, nat_lt, slice_index}
use Rattle.refusals.specs.Reading.{Outcome, need}
use Rattle.refusals.specs.declared.Refusal.TheVariants.{Malformed, OutOfLimits}
use Rattle.claims.specs.declared.kinds.Flags.{Flags}

-- bit k of a content whose first byte counts unused bits: bit 0 is the top bit of the byte after it, and a bit that is not sent is clear
abbrev pub bit_set : List ℕ → ℕ → Bool
bit_set c k = cond (nat_lt (1 + k / 8) (length c)) (slice_index c (1 + k / 8) / 2 ^ (7 - k % 8) % 2 == 1) false

-- flags 2 and 3 are true when their bit is set, the others when it is clear
abbrev pub true_when_set : ℕ → Bool
true_when_set k = k == 2 || k == 3

-- the flag of a bit, by the sense of its number
abbrev pub flag_of : List ℕ → ℕ → Option Bool
flag_of c k = Some (cond (true_when_set k) (bit_set c k) (not (bit_set c k)))

-- bits 0 to 3 speak of flags 0 to 3
abbrev pub flags_of : List ℕ → Flags
flags_of c = record { states = flag_of c 0 ∷ flag_of c 1 ∷ flag_of c 2 ∷ flag_of c 3 ∷ None ∷ None ∷ None ∷ None ∷ None ∷ None ∷ [] }

-- the unused bits of the last byte are 0; without any byte of bits their count is 0
abbrev pub padded : List ℕ → Bool
padded c = cond (length c == 1) (slice_index c 0 == 0) (slice_index c (length c - 1) % 2 ^ slice_index c 0 == 0)

-- a count of unused bits, 0 to 7, then 0 to 4 bytes of bits
abbrev pub flags_in : ℕ → List ℕ → Outcome Flags
flags_in at c =
    need (nat_lt 0 (length c)) (Malformed at)
    (need (nat_le (length c) 5 && nat_le (slice_index c 0) 7) (OutOfLimits at)
    (need (padded c) (OutOfLimits at)
    (Ok (flags_of c))))
