use Rattle.std.specs.Prelude.{ℕ, ◌+◌, Bool, Ok, Option, ◌==◌, nat_le}
use Rattle.refusals.specs.Reading.{Outcome, onward, keeps, need, or_refuse}
use Rattle.refusals.specs.declared.Refusal.TheVariants.{Malformed, OutOfLimits}
use Rattle.claims.specs.Bytes.{kept_from}
use Rattle.claims.specs.declared.kinds.Bytes.{Bytes}
use Rattle.parts.specs.Parts.{Piece, after, before}
use Rattle.parts.specs.declared.kinds.Read.{Read}
use Rattle.cbor.specs.Items.{Shape, item_of, is_unsigned, is_bytes, is_text, is_array, is_map, is_tag, is_truth}

-- what is read at the beginning of a part, and how many bytes it has
abbrev pub Rule : Type 0 → Type 0
Rule A = Piece → Outcome (Read A)

-- what was read, put to use
abbrev pub stores : {A B : Type 0} → Outcome (Read A) → (A → B) → Outcome (Read B)
stores r f = keeps r (λ x. record { value = f x.value; size = x.size })

-- one rule, and behind what it read another, which may depend on that
abbrev pub then : {A B : Type 0} → Rule A → (A → Rule B) → Rule B
then first second p =
    onward (first p) (λ x.
    keeps (second x.value (after x.size p)) (λ y. record { value = y.value; size = x.size + y.size }))

-- an item of a kind, by what it holds
abbrev pub item_as : {A : Type 0} → (Shape → Option A) → Rule A
item_as kind p =
    or_refuse (item_of p) (Malformed p.at) (λ f.
    or_refuse (kind f.item) (Malformed p.at) (λ x.
    Ok (record { value = x; size = before p f.rest })))

-- an unsigned number
abbrev pub number_at : Rule ℕ
number_at = item_as is_unsigned

-- a number of at most `most`
abbrev pub number_to : ℕ → Rule ℕ
number_to most p = onward (number_at p) (λ n. need (nat_le n.value most) (OutOfLimits p.at) (Ok n))

-- true or false
abbrev pub truth_at : Rule Bool
truth_at = item_as is_truth

-- the number of elements that the head of an array or a map says
abbrev pub array_at : Rule ℕ
array_at = item_as is_array

abbrev pub map_at : Rule ℕ
map_at = item_as is_map

-- the head of an array of exactly so many elements
abbrev pub array_of : ℕ → Rule ℕ
array_of count p = onward (array_at p) (λ n. need (n.value == count) (Malformed p.at) (Ok n))

-- a string of `least` to N bytes, of a kind
abbrev pub string_at : (Shape → Option Piece) → (N : ℕ) → ℕ → Rule (Bytes N)
string_at kind N least p =
    onward (item_as kind p) (λ s.
    or_refuse (kept_from N least s.value.bytes) (OutOfLimits p.at) (λ b.
    Ok (record { value = b; size = s.size })))

abbrev pub text_at : (N : ℕ) → ℕ → Rule (Bytes N)
text_at = string_at is_text

abbrev pub bytes_at : (N : ℕ) → ℕ → Rule (Bytes N)
bytes_at = string_at is_bytes

-- a tag
abbrev pub tag_at : Rule ℕ
tag_at = item_as is_tag

-- a tag around a string of `least` to N bytes: one item, whose place is that of the tag
abbrev pub tagged_bytes : ℕ → (N : ℕ) → ℕ → Rule (Bytes N)
tagged_bytes tag N least p =
    onward (tag_at p) (λ t.
    need (t.value == tag) (Malformed p.at)
    (or_refuse (item_of (after t.size p)) (Malformed p.at) (λ f.
    or_refuse (is_bytes f.item) (Malformed p.at) (λ c.
    or_refuse (kept_from N least c.bytes) (OutOfLimits p.at) (λ b.
    Ok (record { value = b; size = before p f.rest }))))))
