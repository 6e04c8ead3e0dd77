use Rattle.std.specs.Prelude.{ℕ, cond, not, List, [], ◌∷◌, ◌++◌, length, Some, None, Ok, Option, ◌==◌, nat_lt}
use Rattle.refusals.specs.Reading.{Outcome, onward, need, or_refuse}
use Rattle.refusals.specs.declared.Refusal.TheVariants.{Malformed, Unknown}
use Rattle.claims.specs.Claims.{no_claim}
use Rattle.claims.specs.declared.kinds.Claim.{Claim}
use Rattle.claims.specs.declared.kinds.Environment.{Environment}
use Rattle.conditions.specs.Wanted.{no_condition}
use Rattle.conditions.specs.declared.kinds.Condition.{Condition}
use Rattle.parts.specs.Holders.{Element}
use Rattle.parts.specs.Parts.{whole_of}
use Rattle.cbor.specs.Holders.{Under, array_by, map_by}
use Rattle.cbor.specs.Scalars.{Rule, stores, then, array_of}
use Rattle.measurements.specs.Measurements.{in_condition, in_addition}
use Rattle.records.specs.Additions.{additions_of}
use Rattle.records.specs.Few.{few_of, joined}
use Rattle.records.specs.Records.{record_head, condition_at, maps_under, records_of}
use Rattle.records.specs.declared.kinds.Few.{Few}
use Rattle.manifests.specs.declared.kinds.Section.{Section}
use Rattle.manifests.specs.declared.kinds.Section.TheVariants.{References, Endorsements, Conditionals}
use Rattle.manifests.specs.declared.kinds.Sort.TheVariants.{Reference, Endorsement}
use Rattle.manifests.specs.declared.kinds.Triple.{Triple}

-- the environment and nothing else
abbrev pub alone : Environment → Condition
alone e = record { environment = e; wanted = None }

abbrev pub only_condition : Condition → Few Condition
only_condition c = joined (few_of no_condition) c

abbrev pub reference_of : ℕ → Condition → Triple
reference_of signer c = record { signer = signer; sort = Reference; conditions = only_condition c; additions = few_of no_claim }

abbrev pub endorsement_of : ℕ → Few Condition → Few Claim → Triple
endorsement_of signer conditions additions = record { signer = signer; sort = Endorsement; conditions = conditions; additions = additions }

-- a list of one
abbrev pub one : {A : Type 0} → Rule A → Rule (List A)
one rule p = stores (rule p) (λ x. x ∷ [])

-- an element that gives a list, behind the lists of those before it
abbrev pub collects : {A : Type 0} → Rule (List A) → Element (List A)
collects rule xs p = stores (rule p) (λ ys. xs ++ ys)

-- a measurement map is a reference by itself
abbrev pub reference_at : ℕ → Environment → Rule Triple
reference_at signer e p = stores (condition_at in_condition e p) (reference_of signer)

-- under 0: a record, one reference for each of its measurement maps
abbrev pub reference_record : ℕ → Rule (List Triple)
reference_record signer = then record_head (λ e. array_by (collects (one (reference_at signer e))) [])

-- under 1: a record, an endorsement on its environment alone whose additions are its measurement maps
abbrev pub endorsement_record : ℕ → Rule Triple
endorsement_record signer =
    then record_head (λ e p.
    stores (maps_under in_addition (few_of no_condition) e p) (λ found. endorsement_of signer (only_condition (alone e)) (additions_of found)))

-- under 10: [conditions, additions], both arrays of records
abbrev pub conditional_pair : ℕ → Rule Triple
conditional_pair signer =
    then (array_of 2) (λ _.
    then (records_of in_condition) (λ conditions p.
    stores (records_of in_addition p) (λ found. endorsement_of signer conditions (additions_of found))))

-- the triples of an element of an array, by the key that it stands under

abbrev pub section_of : ℕ → Option Section
section_of key = cond (key == 0) (Some References) (cond (key == 1) (Some Endorsements) (cond (key == 10) (Some Conditionals) None))

abbrev pub element_of : ℕ → Section → Rule (List Triple)
element_of signer References = reference_record signer
element_of signer Endorsements = one (endorsement_record signer)
element_of signer Conditionals = one (conditional_pair signer)

abbrev pub triples_under : ℕ → Under (List Triple)
triples_under signer ts key at p =
    or_refuse (section_of key) (Unknown at) (λ section.
    array_by (collects (element_of signer section)) ts p)

-- a manifest: a map of arrays
abbrev pub manifest_map : ℕ → Rule (List Triple)
manifest_map signer = map_by (triples_under signer) []

-- the triples of a message, which is a manifest with nothing left over
abbrev pub triples_of : ℕ → List ℕ → Outcome (List Triple)
triples_of signer m =
    onward (manifest_map signer (whole_of m)) (λ r.
    need (not (nat_lt r.size (length m))) (Malformed r.size)
    (Ok r.value))
