use Rattle.std.specs.Prelude.{ℕ, ◌+◌, ◌-◌, min, Bool, List, length, take, drop, ◌==◌, nat_lt}
use Rattle.parts.specs.declared.kinds.Part.{Part}

-- a part of a message: the place of its first byte, and its bytes
pub record Piece : Type 0 where
  pub at : ℕ
  pub bytes : List ℕ

abbrev pub piece : Part → Piece
piece p = record { at = p.at; bytes = drop p.at p.message.now }

-- the whole message
abbrev pub whole_of : List ℕ → Piece
whole_of m = record { at = 0; bytes = m }

-- what follows the first n bytes
abbrev pub after : ℕ → Piece → Piece
after n p = record { at = p.at + min n (length p.bytes); bytes = drop n p.bytes }

-- the first n bytes
abbrev pub front : ℕ → Piece → Piece
front n p = record { at = p.at; bytes = take n p.bytes }

-- there are bytes, and there are none
abbrev pub some : Piece → Bool
some p = nat_lt 0 (length p.bytes)

abbrev pub none : Piece → Bool
none p = length p.bytes == 0

-- how many bytes of p stand before the rest of it
abbrev pub before : Piece → Piece → ℕ
before p rest = length p.bytes - length rest.bytes
