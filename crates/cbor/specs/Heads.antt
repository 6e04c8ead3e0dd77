use Rattle.std.specs.Prelude.{ℕ, ◌+◌, ◌/◌, ◌%◌, ◌<◌, ◌≤◌, cond, ◌&&◌, List, length, take, drop, Some, None, Option, ◌==◌, nat_le, nat_lt, slice_index}
use Rattle.parts.specs.Numbers.{big}
use Rattle.cbor.specs.declared.kinds.Head.{Head}

-- a head whose number stands in the w bytes after its first, and is too large for a shorter head
abbrev pub long_head : ℕ → ℕ → List ℕ → Option Head
long_head w least m =
    cond (nat_le (1 + w) (length m) && nat_le least (big (take w (drop 1 m))))
    (Some (record { major = slice_index m 0 / 32; argument = big (take w (drop 1 m)); size = 1 + w })) None

-- the head of a first byte that ends in `info`: shortest and definite
abbrev pub by_info : ℕ → List ℕ → Option Head
by_info info m =
    cond (nat_lt info 24) (Some (record { major = slice_index m 0 / 32; argument = info; size = 1 }))
    (cond (info == 24) (long_head 1 24 m)
    (cond (info == 25) (long_head 2 256 m)
    (cond (info == 26) (long_head 4 65536 m)
    (cond (info == 27) (long_head 8 4294967296 m)
    None))))

-- the head at the beginning of some bytes
abbrev pub head_of : List ℕ → Option Head
head_of m = cond (nat_lt 0 (length m)) (by_info (slice_index m 0 % 32) m) None

-- a head has bytes of its own, all of them among some bytes
abbrev pub StandsIn : List ℕ → Head → Type 0
StandsIn m h = (0 < h.size) × (h.size ≤ length m)
