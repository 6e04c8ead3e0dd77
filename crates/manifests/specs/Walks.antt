use Rattle.std.specs.Prelude.{ℕ, ◌+◌, ◌-◌, ◌<◌, ◌≤◌, cond, not, List, [], ◌∷◌, ◌++◌, length, Some, None, Ok, Err, Option, nat_lt}
use Rattle.refusals.specs.Reading.{Outcome, onward, keeps, need, or_refuse, above}
use Rattle.refusals.specs.declared.Refusal.TheVariants.{Malformed, Unknown, Missing}
use Rattle.claims.specs.Environments.{no_environment}
use Rattle.claims.specs.declared.kinds.Environment.{Environment}
use Rattle.parts.specs.Parts.{Piece, whole_of, after}
use Rattle.cbor.specs.Holders.{counted_from, entry_at}
use Rattle.cbor.specs.Scalars.{Rule, number_at, array_at, map_at}
use Rattle.records.specs.Records.{record_head}
use Rattle.manifests.specs.declared.kinds.Cursor.{Cursor}
use Rattle.manifests.specs.declared.kinds.Section.{Section}
use Rattle.manifests.specs.declared.kinds.Section.TheVariants.{References, Endorsements, Conditionals}
use Rattle.manifests.specs.declared.kinds.Step.{Step}
use Rattle.manifests.specs.declared.kinds.Triple.{Triple}
use Rattle.manifests.specs.Triples.{one, collects, reference_at, endorsement_record, conditional_pair, section_of, element_of, triples_under}

-- The walk's law: what is left for a cursor is the next triple and what is left for the cursor behind it. So a walk from the beginning gives
-- the triples of the message, in their order, or its refusal.

-- what is left of a message: the entries of the manifest, and nothing over
abbrev pub entries_left : Cursor → ℕ → List ℕ → Outcome (List Triple)
entries_left c used m =
    onward (counted_from (entry_at (triples_under c.signer)) c.entries (record { last = c.last; fields = [] }) used (whole_of m)) (λ r.
    need (not (nat_lt r.size (length m))) (Malformed r.size)
    (Ok r.value.fields))

-- the elements of the entry that the walk is in, and the entries behind it
abbrev pub elements_left : Cursor → ℕ → List ℕ → Outcome (List Triple)
elements_left c used m =
    onward (counted_from (collects (element_of c.signer c.section)) c.elements [] used (whole_of m)) (λ r.
    keeps (entries_left c r.size m) (λ ts. r.value ++ ts))

-- the measurement maps of the record that the walk is in, and the elements behind it
abbrev pub left : Cursor → List ℕ → Outcome (List Triple)
left c m =
    onward (counted_from (collects (one (reference_at c.signer c.environment))) c.maps [] c.used (whole_of m)) (λ r.
    keeps (elements_left c r.size m) (λ ts. r.value ++ ts))

-- what is left behind a step
abbrev pub further : List ℕ → Option Step → Outcome (List Triple)
further m None = Ok []
further m (Some s) = keeps (left s.cursor m) (λ ts. s.triple ∷ ts)

-- the head of an array that is not empty
abbrev pub array_some : Rule ℕ
array_some p = onward (array_at p) (λ n. need (nat_lt 0 n.value) (Missing p.at) (Ok n))

-- the message from the cursor on
abbrev pub ahead_of : Cursor → List ℕ → Piece
ahead_of c m = after c.used (whole_of m)

-- a walk that begins behind the head of the manifest
abbrev pub begun : ℕ → List ℕ → Outcome Cursor
begun signer m =
    onward (map_at (whole_of m)) (λ n.
    need (nat_lt 0 n.value) (Missing 0)
    (Ok (record { signer = signer; used = n.size; entries = n.value; last = None; section = References; elements = 0; environment = no_environment; maps = 0 })))

-- a cursor that has begun an entry, a record, or is behind one element or map

abbrev pub in_entry : Cursor → ℕ → Section → ℕ → ℕ → Cursor
in_entry c key section elements used =
    record { signer = c.signer; used = used; entries = c.entries - 1; last = Some key; section = section; elements = elements; environment = c.environment; maps = 0 }

abbrev pub in_record : Cursor → Environment → ℕ → ℕ → Cursor
in_record c e maps used =
    record { signer = c.signer; used = used; entries = c.entries; last = c.last; section = c.section; elements = c.elements - 1; environment = e; maps = maps }

abbrev pub past_element : Cursor → ℕ → Cursor
past_element c used =
    record { signer = c.signer; used = used; entries = c.entries; last = c.last; section = c.section; elements = c.elements - 1; environment = c.environment; maps = 0 }

abbrev pub past_map : Cursor → ℕ → Cursor
past_map c used =
    record { signer = c.signer; used = used; entries = c.entries; last = c.last; section = c.section; elements = c.elements; environment = c.environment; maps = c.maps - 1 }

-- the next measurement map of a reference record
abbrev pub map_step : Cursor → List ℕ → Outcome Step
map_step c m =
    keeps (reference_at c.signer c.environment (ahead_of c m)) (λ x.
    record { triple = x.value; cursor = past_map c (c.used + x.size) })

-- the next element that is one triple
abbrev pub element_step : Rule Triple → Cursor → List ℕ → Outcome Step
element_step rule c m =
    keeps (rule (ahead_of c m)) (λ x.
    record { triple = x.value; cursor = past_element c (c.used + x.size) })

-- the next reference record, and its first measurement map
abbrev pub record_step : Cursor → List ℕ → Outcome Step
record_step c m =
    onward (record_head (ahead_of c m)) (λ e.
    onward (array_some (after e.size (ahead_of c m))) (λ n.
    map_step (in_record c e.value n.value (c.used + (e.size + n.size))) m))

-- the first triple of the next element
abbrev pub section_step : Section → Cursor → List ℕ → Outcome Step
section_step References c m = record_step c m
section_step Endorsements c m = element_step (endorsement_record c.signer) c m
section_step Conditionals c m = element_step (conditional_pair c.signer) c m

-- the first triple of the next entry
abbrev pub entry_step : Cursor → List ℕ → Outcome Step
entry_step c m =
    onward (number_at (ahead_of c m)) (λ key.
    need (above c.last key.value) (Unknown (ahead_of c m).at)
    (or_refuse (section_of key.value) (Unknown (ahead_of c m).at) (λ section.
    onward (array_some (after key.size (ahead_of c m))) (λ n.
    section_step section (in_entry c key.value section n.value (c.used + (key.size + n.size))) m))))

-- a triple that follows
abbrev pub some : Outcome Step → Outcome (Option Step)
some r = keeps r (λ s. Some s)

-- the next step of a walk, if there is one
abbrev pub step_from : Cursor → List ℕ → Outcome (Option Step)
step_from c m =
    cond (nat_lt 0 c.maps) (some (map_step c m))
    (cond (nat_lt 0 c.elements) (some (section_step c.section c m))
    (cond (nat_lt 0 c.entries) (some (entry_step c m))
    (need (not (nat_lt c.used (length m))) (Malformed c.used) (Ok None))))

-- the triple of a step, if there is one
abbrev pub triple_of : Option Step → Option Triple
triple_of None = None
triple_of (Some s) = Some s.triple

-- where a walk stands behind a step; it stays where there is none
abbrev pub cursor_behind : Cursor → Outcome (Option Step) → Cursor
cursor_behind c (Ok (Some s)) = s.cursor
cursor_behind c (Ok None) = c
cursor_behind c (Err e) = c

-- a step goes on, within the message
abbrev pub GoesOn : Cursor → List ℕ → Step → Type 0
GoesOn c m s = (c.used < s.cursor.used) × (s.cursor.used ≤ length m)
