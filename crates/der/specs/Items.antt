use Rattle.std.specs.Prelude.{ℕ, ◌+◌, cond, Option, ◌==◌}
use Rattle.std.specs.Option.{option_map}
use Rattle.der.specs.declared.kinds.Item.{Item}
use Rattle.der.specs.declared.kinds.Item.TheVariants.{Boolean, Octets, Identifier, Sequence, Field}
use Rattle.der.specs.declared.kinds.Taken.{Taken}
use Rattle.der.specs.Heads.{head_of}
use Rattle.parts.specs.Parts.{Piece, piece, after, front}

-- an item, by its kind, with its content; any other is known by its tag
pub data Shape : Type 0 where
  boolean : Piece → Shape
  octets : Piece → Shape
  identifier : Piece → Shape
  sequence : Piece → Shape
  field : ℕ → Piece → Shape

abbrev pub shape : Item → Shape
shape (Boolean p) = boolean (piece p)
shape (Octets p) = octets (piece p)
shape (Identifier p) = identifier (piece p)
shape (Sequence p) = sequence (piece p)
shape (Field t p) = field t (piece p)

-- the kind of an item, by its tag
abbrev pub shape_of : ℕ → Piece → Shape
shape_of t p =
    cond (t == 0x01) (boolean p)
    (cond (t == 0x04) (octets p)
    (cond (t == 0x06) (identifier p)
    (cond (t == 0x30) (sequence p)
    (field t p))))

-- the first item of a part, and what follows it
pub record Front : Type 0 where
  pub item : Shape
  pub rest : Piece

abbrev pub taken : Taken → Front
taken t = record { item = shape t.item; rest = piece t.rest }

abbrev pub item_of : Piece → Option Front
item_of p = option_map (λ h. record { item = shape_of h.tag (front h.size (after h.header p)); rest = after (h.header + h.size) p }) (head_of p.bytes)
