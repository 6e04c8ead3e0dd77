use Rattle.std.specs.Prelude.{◌≡◌, ℕ, List, [], ◌∷◌, ◌++◌, Some, nat_eq}
use Rattle.claims.specs.declared.kinds.Environment.{Environment}
use Rattle.conditions.specs.Wanted.{no_condition}
use Rattle.cbor.specs.Encodes.{Headed, ArrayOf, MapOf, Then, Stored, Such}
use Rattle.measurements.specs.Measurements.{in_condition, in_addition}
use Rattle.records.specs.Additions.{additions_of}
use Rattle.records.specs.Few.{few_of}
use Rattle.records.specs.Layout.{RecordHead, ConditionOf, MapsUnder, RecordsOf}
use Rattle.manifests.specs.Triples.{alone, only_condition, reference_of, endorsement_of, section_of}
use Rattle.manifests.specs.declared.kinds.Section.{Section}
use Rattle.manifests.specs.declared.kinds.Section.TheVariants.{References, Endorsements, Conditionals}
use Rattle.manifests.specs.declared.kinds.Triple.{Triple}

-- Which bytes write which manifest, under a signer.

-- an element of an array, whose triples stand behind those of the elements before it
abbrev pub Collected : (List Triple → List ℕ → Type 0) → List Triple → List Triple → List ℕ → Type 0
Collected Kind ts = Stored Kind (λ us. ts ++ us)

-- one triple alone
abbrev pub Single : (Triple → List ℕ → Type 0) → List Triple → List ℕ → Type 0
Single Kind = Stored Kind (λ t. t ∷ [])

-- a measurement map is a reference by itself
abbrev pub ReferenceOf : ℕ → Environment → Triple → List ℕ → Type 0
ReferenceOf signer e = Stored (ConditionOf in_condition e) (reference_of signer)

-- under 0: a record, one reference for each of its measurement maps
abbrev pub ReferenceRecord : ℕ → List Triple → List ℕ → Type 0
ReferenceRecord signer = Then RecordHead (λ e. ArrayOf (Collected (Single (ReferenceOf signer e))) [])

-- under 1: a record, an endorsement on its environment alone whose additions are its measurement maps
abbrev pub EndorsementRecord : ℕ → Triple → List ℕ → Type 0
EndorsementRecord signer =
    Then RecordHead (λ e. Stored (MapsUnder in_addition (few_of no_condition) e) (λ found. endorsement_of signer (only_condition (alone e)) (additions_of found)))

-- under 10: [conditions, additions], both arrays of records
abbrev pub ConditionalPair : ℕ → Triple → List ℕ → Type 0
ConditionalPair signer =
    Then (Such (Headed 4) (λ n. nat_eq n 2)) (λ _.
    Then (RecordsOf in_condition) (λ conditions.
    Stored (RecordsOf in_addition) (λ found. endorsement_of signer conditions (additions_of found))))

abbrev pub ElementOf : ℕ → Section → List Triple → List ℕ → Type 0
ElementOf signer References = ReferenceRecord signer
ElementOf signer Endorsements = Single (EndorsementRecord signer)
ElementOf signer Conditionals = Single (ConditionalPair signer)

-- the array under a key
pub data TriplesUnder (signer : ℕ) (ts : List Triple) (key : ℕ) : List Triple → List ℕ → Type 0 where
  under : {s : Section} {us : List Triple} {bs : List ℕ} → section_of key ≡ Some s → ArrayOf (Collected (ElementOf signer s)) ts us bs → TriplesUnder signer ts key us bs

-- a manifest: a map of arrays
abbrev pub ManifestOf : ℕ → List Triple → List ℕ → Type 0
ManifestOf signer = MapOf (TriplesUnder signer) []
