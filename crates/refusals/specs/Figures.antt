use Rattle.std.specs.Prelude.{ℕ, ◌≤◌}
use Rattle.refusals.specs.declared.Refusal.{Refusal}
use Rattle.refusals.specs.declared.Refusal.TheVariants.{ListResized, AuthorityTooHigh, MessageEmpty, MessageTooLong, Malformed, Unknown, OutOfLimits, Missing, NotPermitted, LinesFull, TriplesFull, NoSuchNumber}
use Rattle.refusals.specs.declared.Layer.{Layer}
use Rattle.refusals.specs.declared.Layer.TheVariants.{Caller, Item, Record, Table}

-- the number of each refusal, in the order of checking
abbrev pub number : Refusal → ℕ
number ListResized = 1
number AuthorityTooHigh = 2
number MessageEmpty = 3
number MessageTooLong = 4
number (Malformed at) = 5
number (Unknown at) = 6
number (OutOfLimits at) = 7
number (Missing at) = 8
number (NotPermitted n) = 9
number LinesFull = 10
number TriplesFull = 11
number (NoSuchNumber count) = 12

-- the layer of each refusal
abbrev pub layer : Refusal → Layer
layer ListResized = Caller
layer AuthorityTooHigh = Caller
layer MessageEmpty = Caller
layer MessageTooLong = Caller
layer (Malformed at) = Item
layer (Unknown at) = Record
layer (OutOfLimits at) = Record
layer (Missing at) = Record
layer (NotPermitted n) = Table
layer LinesFull = Table
layer TriplesFull = Table
layer (NoSuchNumber count) = Caller

-- the first byte of the item at fault or of the holder that lacks something; the claim's number; the count; else 0
abbrev pub place : Refusal → ℕ
place ListResized = 0
place AuthorityTooHigh = 0
place MessageEmpty = 0
place MessageTooLong = 0
place (Malformed at) = at
place (Unknown at) = at
place (OutOfLimits at) = at
place (Missing at) = at
place (NotPermitted n) = n
place LinesFull = 0
place TriplesFull = 0
place (NoSuchNumber count) = count

-- the refusals of a reader: for an item or a record, and for nothing else
abbrev pub OfReader : Refusal → Type 0
OfReader e = (5 ≤ number e) × (number e ≤ 8)
