use Rattle.std.specs.Prelude.{◌≡◌, ℕ, ◌+◌, Bool, true, false, cond, ◌&&◌, length, Some, None, Option, ◌==◌, nat_le}
use Rattle.std.specs.Option.{option_map}
use Rattle.parts.specs.Parts.{Piece, piece, after, front, before}
use Rattle.parts.specs.declared.kinds.Part.{Part}
use Rattle.parts.specs.Reads.{of_size}
use Rattle.parts.specs.declared.kinds.Read.{Read}
use Rattle.cbor.specs.Heads.{head_of}
use Rattle.cbor.specs.declared.kinds.Head.{Head}
use Rattle.cbor.specs.declared.kinds.Item.{Item}
use Rattle.cbor.specs.declared.kinds.Item.TheVariants.{Unsigned, Bytes, Text, Array, Map, Tag, Truth}
use Rattle.cbor.specs.declared.kinds.Taken.{Taken}

-- an item by its kind: a string with its content, a holder with the number of its elements
pub data Shape : Type 0 where
  unsigned : ℕ → Shape
  bytes : Piece → Shape
  text : Piece → Shape
  array : ℕ → Shape
  map : ℕ → Shape
  tag : ℕ → Shape
  truth : Bool → Shape

abbrev pub shape : Item → Shape
shape (Unsigned n) = unsigned n
shape (Bytes p) = bytes (piece p)
shape (Text p) = text (piece p)
shape (Array n) = array n
shape (Map n) = map n
shape (Tag n) = tag n
shape (Truth b) = truth b

-- the first item of a part, and what follows it
pub record Front : Type 0 where
  pub item : Shape
  pub rest : Piece

abbrev pub taken : Taken → Front
taken t = record { item = shape t.item; rest = piece t.rest }

-- an item that is its head alone
abbrev pub head_only : Shape → Head → Piece → Option Front
head_only item h p = Some (record { item = item; rest = after h.size p })

-- a string, whose content is all there
abbrev pub string_of : (Piece → Shape) → Head → Piece → Option Front
string_of kind h p =
    cond (nat_le (h.size + h.argument) (length p.bytes))
    (Some (record { item = kind (front h.argument (after h.size p)); rest = after (h.size + h.argument) p })) None

-- what makes an item of a part makes one of a kind
abbrev pub Holds : (Part → Item → Type 0) → (Piece → Shape) → Type 0
Holds makes kind = (p : Part) (i : Item) → makes p i → shape i ≡ kind (piece p)

-- the item of a head, by its major type; of the simple values only false and true are items here
abbrev pub by_major : Head → Piece → Option Front
by_major h p =
    cond (h.major == 0) (head_only (unsigned h.argument) h p)
    (cond (h.major == 2) (string_of bytes h p)
    (cond (h.major == 3) (string_of text h p)
    (cond (h.major == 4) (head_only (array h.argument) h p)
    (cond (h.major == 5) (head_only (map h.argument) h p)
    (cond (h.major == 6) (head_only (tag h.argument) h p)
    (cond (h.major == 7 && h.argument == 20) (head_only (truth false) h p)
    (cond (h.major == 7 && h.argument == 21) (head_only (truth true) h p)
    None)))))))

-- go on with a head that is there
abbrev pub with_head : Option Head → (Head → Option Front) → Option Front
with_head None f = None
with_head (Some h) f = f h

abbrev pub item_of : Piece → Option Front
item_of p = with_head (head_of p.bytes) (λ h. by_major h p)

-- what an item holds, if it is of a kind

abbrev pub is_unsigned : Shape → Option ℕ
is_unsigned (unsigned x) = Some x
is_unsigned (bytes x) = None
is_unsigned (text x) = None
is_unsigned (array x) = None
is_unsigned (map x) = None
is_unsigned (tag x) = None
is_unsigned (truth x) = None

abbrev pub is_bytes : Shape → Option Piece
is_bytes (unsigned x) = None
is_bytes (bytes x) = Some x
is_bytes (text x) = None
is_bytes (array x) = None
is_bytes (map x) = None
is_bytes (tag x) = None
is_bytes (truth x) = None

abbrev pub is_text : Shape → Option Piece
is_text (unsigned x) = None
is_text (bytes x) = None
is_text (text x) = Some x
is_text (array x) = None
is_text (map x) = None
is_text (tag x) = None
is_text (truth x) = None

abbrev pub is_array : Shape → Option ℕ
is_array (unsigned x) = None
is_array (bytes x) = None
is_array (text x) = None
is_array (array x) = Some x
is_array (map x) = None
is_array (tag x) = None
is_array (truth x) = None

abbrev pub is_map : Shape → Option ℕ
is_map (unsigned x) = None
is_map (bytes x) = None
is_map (text x) = None
is_map (array x) = None
is_map (map x) = Some x
is_map (tag x) = None
is_map (truth x) = None

abbrev pub is_tag : Shape → Option ℕ
is_tag (unsigned x) = None
is_tag (bytes x) = None
is_tag (text x) = None
is_tag (array x) = None
is_tag (map x) = None
is_tag (tag x) = Some x
is_tag (truth x) = None

abbrev pub is_truth : Shape → Option Bool
is_truth (unsigned x) = None
is_truth (bytes x) = None
is_truth (text x) = None
is_truth (array x) = None
is_truth (map x) = None
is_truth (tag x) = None
is_truth (truth x) = Some x

-- what is chosen of the first item of a part, and how many bytes that item has
abbrev pub chosen_from : {A : Type 0} → (Item → Option A → Type 0) → Piece → Option (Read A) → Option Taken → Type 0
chosen_from chooses p r None = r ≡ None
chosen_from {A} chooses p r (Some t) = (o : Option A) × chooses t.item o × (r ≡ of_size (before p (piece t.rest)) o)

abbrev pub ChosenFrom : {A : Type 0} → (Item → Option A → Type 0) → Piece → Option (Read A) → Type 0
ChosenFrom chooses p r = (first : Option Taken) × (option_map taken first ≡ item_of p) × chosen_from chooses p r first
