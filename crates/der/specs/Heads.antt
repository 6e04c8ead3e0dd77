use Rattle.std.specs.Prelude.{ℕ, ◌+◌, ◌-◌, ◌%◌, cond, not, ◌&&◌, List, [], ◌∷◌, length, take, drop, Some, None, Option, ◌==◌, nat_le, nat_lt, slice_index}
use Rattle.std.specs.Option.{option_map}
use Rattle.parts.specs.Numbers.{big}
use Rattle.der.specs.declared.kinds.Head.{Head}
use Rattle.der.specs.declared.kinds.Size.{Size}

-- go on with what is there
abbrev pub with : {A B : Type 0} → Option A → (A → Option B) → Option B
with None f = None
with (Some x) f = f x

-- how many bytes there are up to the first whose top bit is clear
abbrev pub run : List ℕ → Option ℕ
run [] = None
run (x ∷ xs) = cond (nat_lt x 128) (Some 1) (option_map (λ n. 1 + n) (run xs))

-- a tag of several bytes after its first: its number is at least 31 and has no leading zeros
abbrev pub long_tag : List ℕ → Option ℕ
long_tag m = cond (nat_lt 0 (length m) && nat_le 31 (slice_index m 0) && not (slice_index m 0 == 128)) (run m) None

-- how many bytes a tag has: one, or several where the low five bits of its first are all set
abbrev pub tag_width : List ℕ → Option ℕ
tag_width m = cond (nat_lt 0 (length m)) (cond (slice_index m 0 % 32 == 31) (option_map (λ n. 1 + n) (long_tag (drop 1 m))) (Some 1)) None

-- a length in the w bytes after its first: no leading zero, too large for the short form
-- (more than eight bytes would promise more than there can be)
abbrev pub long_size : ℕ → List ℕ → Option Size
long_size w xs =
    cond (nat_le 1 w && nat_le w 8 && nat_le w (length xs) && nat_le 1 (slice_index xs 0) && nat_le 128 (big (take w xs)))
    (Some (record { width = 1 + w; size = big (take w xs) })) None

-- a length: definite and shortest
abbrev pub size_of : List ℕ → Option Size
size_of m = cond (nat_lt 0 (length m)) (cond (nat_lt (slice_index m 0) 128) (Some (record { width = 1; size = slice_index m 0 })) (long_size (slice_index m 0 - 128) (drop 1 m))) None

-- the item at the beginning of some bytes, by its tag, length and content: all of them are there
abbrev pub head_of : List ℕ → Option Head
head_of m =
    with (tag_width m) (λ w.
    with (size_of (drop w m)) (λ s.
    cond (nat_le (w + s.width + s.size) (length m))
    (Some (record { tag = slice_index m 0; header = w + s.width; size = s.size }))
    None))
