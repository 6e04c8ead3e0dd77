use Rattle.std.specs.Prelude.{◌≡◌, ◌<◌, IfOk, ℕ, Bool, ◌&&◌, ◌||◌, List, length, Some, None, Ok, Option, ◌==◌, slice_index}
use Rattle.refusals.specs.Reading.{Outcome, keeps, need, or_refuse}
use Rattle.refusals.specs.declared.Refusal.TheVariants.{Malformed, OutOfLimits}
use Rattle.der.specs.declared.kinds.Held.{Held}
use Rattle.der.specs.declared.kinds.Kind.{Kind}
use Rattle.der.specs.declared.kinds.Kind.TheVariants.{Boolean, Octets, Identifier, Sequence}
use Rattle.der.specs.Items.{Shape, boolean, octets, identifier, sequence, field, item_of}
use Rattle.parts.specs.Parts.{Piece, piece}

-- the content, if the item is of a kind

abbrev pub is_boolean : Shape → Option Piece
is_boolean (boolean p) = Some p
is_boolean (octets p) = None
is_boolean (identifier p) = None
is_boolean (sequence p) = None
is_boolean (field t p) = None

abbrev pub is_octets : Shape → Option Piece
is_octets (boolean p) = None
is_octets (octets p) = Some p
is_octets (identifier p) = None
is_octets (sequence p) = None
is_octets (field t p) = None

abbrev pub is_identifier : Shape → Option Piece
is_identifier (boolean p) = None
is_identifier (octets p) = None
is_identifier (identifier p) = Some p
is_identifier (sequence p) = None
is_identifier (field t p) = None

abbrev pub is_sequence : Shape → Option Piece
is_sequence (boolean p) = None
is_sequence (octets p) = None
is_sequence (identifier p) = None
is_sequence (sequence p) = Some p
is_sequence (field t p) = None

-- the content of an item of a kind
abbrev pub content_of : Kind → Shape → Option Piece
content_of Boolean = is_boolean
content_of Octets = is_octets
content_of Identifier = is_identifier
content_of Sequence = is_sequence

-- the tag and the content of an item of none of these kinds
abbrev pub is_field : Shape → Option (ℕ × Piece)
is_field (boolean p) = None
is_field (octets p) = None
is_field (identifier p) = None
is_field (sequence p) = None
is_field (field t p) = Some (t, p)

-- the content of an item, and what follows the item
pub record Holder : Type 0 where
  pub content : Piece
  pub rest : Piece

abbrev pub holder : Held → Holder
holder h = record { content = piece h.content; rest = piece h.rest }

-- the first item of a part, which must be of a kind
abbrev pub item_at : (Shape → Option Piece) → Piece → Outcome Holder
item_at kind p =
    or_refuse (item_of p) (Malformed p.at) (λ f.
    or_refuse (kind f.item) (Malformed p.at) (λ c.
    Ok (record { content = c; rest = f.rest })))

-- what was taken is the first item, of a kind, with its place, and leaves fewer bytes than there were
pub record IsTakenAs (kind : Shape → Option Piece) (p : Piece) (r : Outcome Held) : Type 0 where
  pub value : keeps r holder ≡ item_at kind p
  pub place : IfOk r (λ h. h.at ≡ p.at)
  pub shorter : IfOk r (λ h. length (piece h.rest).bytes < length p.bytes)

-- 00 or FF
abbrev pub truth : List ℕ → Bool
truth c = length c == 1 && (slice_index c 0 == 0x00 || slice_index c 0 == 0xFF)

-- what follows a BOOLEAN, if one stands there; any other item stays where it is
abbrev pub past_boolean : Piece → Option Piece → Piece → Outcome Piece
past_boolean p None rest = Ok p
past_boolean p (Some c) rest = need (truth c.bytes) (OutOfLimits p.at) (Ok rest)

abbrev pub after_boolean : Piece → Outcome Piece
after_boolean p = or_refuse (item_of p) (Malformed p.at) (λ f. past_boolean p (is_boolean f.item) f.rest)
