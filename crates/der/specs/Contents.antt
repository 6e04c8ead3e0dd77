use Rattle.std.specs.Prelude.{ℕ, Bool, true, false, cond, ◌&&◌, List, length, Ok, ◌==◌, nat_le, nat_lt, slice_index}
use Rattle.refusals.specs.Reading.{Outcome, need, or_refuse}
use Rattle.refusals.specs.declared.Refusal.TheVariants.{Malformed, OutOfLimits}
use Rattle.claims.specs.Bytes.{kept_from}
use Rattle.claims.specs.declared.kinds.Bytes.{Bytes}
use Rattle.parts.specs.Numbers.{big}

-- a content of `least` to N bytes, of the item at a place
abbrev pub bytes_in : (N : ℕ) → ℕ → ℕ → List ℕ → Outcome (Bytes N)
bytes_in N least at c = or_refuse (kept_from N least c) (OutOfLimits at) (λ b. Ok b)

-- an INTEGER has a byte, and no first byte that could be left out
abbrev pub shortest : List ℕ → Bool
shortest c =
    cond (length c == 0) false
    (cond (length c == 1) true
    (cond (slice_index c 0 == 0) (nat_le 128 (slice_index c 1))
    (cond (slice_index c 0 == 255) (nat_lt (slice_index c 1) 128) true)))

-- an INTEGER of 0 to `most`, which is below 2 ^ 63: shortest, not negative (its first bit is clear)
abbrev pub integer_in : ℕ → ℕ → List ℕ → Outcome ℕ
integer_in most at c =
    need (shortest c) (Malformed at)
    (need (nat_lt (slice_index c 0) 128 && nat_le (length c) 8) (OutOfLimits at)
    (need (nat_le (big c) most) (OutOfLimits at)
    (Ok (big c))))
