use Rattle.std.specs.Prelude.{ℕ, ◌+◌, ◌*◌, cond, ◌&&◌, List, [], ◌∷◌, length, take, drop, Some, None, Option, ◌==◌, nat_le, slice_index}
use Rattle.spdm.specs.declared.kinds.BlockRef.{BlockRef}

-- the number that bytes write, low byte first
abbrev pub little : List ℕ → ℕ
little [] = 0
little (x ∷ xs) = x + little xs * 256

-- a measurement block: its index, the specification that it follows, the type of its value, and the value
pub record Block : Type 0 where
  pub index : ℕ
  pub specification : ℕ
  pub kind : ℕ
  pub value : List ℕ

abbrev pub parts : BlockRef → Block
parts b = record { index = b.index; specification = b.specification; kind = b.kind; value = b.value.now }

-- the size in the two bytes from k on
abbrev pub size_at : List ℕ → ℕ → ℕ
size_at m k = little (slice_index m k ∷ slice_index m (k + 1) ∷ [])

-- the block at the beginning of some bytes. Byte 0 is the index, 1 the specification, 2 and 3 the size, 4 the type,
-- 5 and 6 the value's size; the value follows. The size counts the value, its size and its type
abbrev pub block_of : List ℕ → Option Block
block_of m =
    cond (nat_le 7 (length m) && size_at m 2 == size_at m 5 + 3 && nat_le (7 + size_at m 5) (length m))
    (Some (record { index = slice_index m 0; specification = slice_index m 1; kind = slice_index m 4; value = take (size_at m 5) (drop 7 m) }))
    None
