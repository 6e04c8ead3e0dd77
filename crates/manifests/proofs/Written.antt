use Rattle.std.proofs.Common.{◌≡◌, ℕ, List, [], ◌∷◌, ◌++◌, length, Ok, Option, refl, ap, ◌∙◌}
use Rattle.refusals.specs.Reading.{or_refuse}
use Rattle.refusals.specs.declared.Refusal.TheVariants.{Unknown}
use Rattle.refusals.proofs.Outcomes.{or_refuse_back}
use Rattle.conditions.specs.Wanted.{no_condition}
use Rattle.parts.specs.Parts.{Piece}
use Rattle.parts.specs.declared.kinds.Read.{Read}
use Rattle.cbor.specs.Encodes.{ArrayOf}
use Rattle.cbor.specs.Holders.{array_by}
use Rattle.cbor.specs.Reads.{Begins, Reads}
use Rattle.cbor.specs.Scalars.{Rule}
use Rattle.cbor.proofs.Joins.{begins_as, reads_stores, reads_then}
use Rattle.cbor.proofs.Rows.{reads_array, reads_map}
use Rattle.cbor.proofs.Rules.{reads_array_of}
use Rattle.measurements.specs.Measurements.{in_condition, in_addition}
use Rattle.measurements.proofs.Written.{from}
use Rattle.records.specs.Few.{few_of}
use Rattle.records.proofs.Written.{head_reads, condition_reads, maps_reads, records_reads, whole_read, whole_written}
use Rattle.manifests.specs.Layout.{Collected, Single, ReferenceOf, ReferenceRecord, EndorsementRecord, ConditionalPair, ElementOf, TriplesUnder, under, ManifestOf}
use Rattle.manifests.specs.Triples.{one, collects, reference_of, reference_at, reference_record, endorsement_record, conditional_pair, section_of, element_of, triples_under, manifest_map, triples_of}
use Rattle.manifests.specs.declared.kinds.Section.{Section}
use Rattle.manifests.specs.declared.kinds.Section.TheVariants.{References, Endorsements, Conditionals}
use Rattle.manifests.specs.declared.kinds.Triple.{Triple}

-- manifests are read exactly as they are written

collected_reads : (rule : Rule (List Triple)) (Kind : List Triple → List ℕ → Type 0) → Reads rule Kind → (ts : List Triple) → Reads (array_by (collects rule) ts) (ArrayOf (Collected Kind) ts)
collected_reads rule Kind reads = reads_array (collects rule) (Collected Kind) (λ ts. reads_stores reads (λ us. ts ++ us))

single_reads : {rule : Rule Triple} {Kind : Triple → List ℕ → Type 0} → Reads rule Kind → Reads (one rule) (Single Kind)
single_reads reads = reads_stores reads (λ t. t ∷ [])

reference_reads : (signer : ℕ) → Reads (reference_record signer) (ReferenceRecord signer)
reference_reads signer =
    reads_then head_reads (λ e.
    collected_reads (one (reference_at signer e)) (Single (ReferenceOf signer e)) (single_reads (reads_stores (condition_reads in_condition e) (reference_of signer))) [])

endorsement_reads : (signer : ℕ) → Reads (endorsement_record signer) (EndorsementRecord signer)
endorsement_reads signer = reads_then head_reads (λ e. reads_stores (maps_reads in_addition (few_of no_condition) e) _)

conditional_reads : (signer : ℕ) → Reads (conditional_pair signer) (ConditionalPair signer)
conditional_reads signer = reads_then (reads_array_of 2) (λ _. reads_then (records_reads in_condition) (λ conditions. reads_stores (records_reads in_addition) _))

element_reads : (signer : ℕ) (s : Section) → Reads (element_of signer s) (ElementOf signer s)
element_reads signer References = reference_reads signer
element_reads signer Endorsements = single_reads (endorsement_reads signer)
element_reads signer Conditionals = single_reads (conditional_reads signer)

array_reads : (signer : ℕ) (s : Section) (ts : List Triple) → Reads (array_by (collects (element_of signer s)) ts) (ArrayOf (Collected (ElementOf signer s)) ts)
array_reads signer s = collected_reads (element_of signer s) (ElementOf signer s) (element_reads signer s)

under_reads : (signer : ℕ) (ts : List Triple) (key key_at : ℕ) → Reads (triples_under signer ts key key_at) (TriplesUnder signer ts key)
under_reads signer ts key key_at = record { written = forth; read = back }
  where
    forth : (us : List Triple) (bs rest : List ℕ) (at : ℕ) → TriplesUnder signer ts key us bs → triples_under signer ts key key_at (from at bs rest) ≡ Ok (record { value = us; size = length bs })
    forth us bs rest at (under {s = s} known k) =
        ap (λ (o : Option Section). or_refuse o (Unknown key_at) (λ t. array_by (collects (element_of signer t)) ts (from at bs rest))) known
        ∙ (array_reads signer s ts).written us bs rest at k

    back : (p : Piece) (x : Read (List Triple)) → triples_under signer ts key key_at p ≡ Ok x → Begins (TriplesUnder signer ts key) p x
    back p x e =
        let a = or_refuse_back (section_of key) _ _ x e in
        begins_as (ArrayOf (Collected (ElementOf signer a.0)) ts) (TriplesUnder signer ts key) p x x (λ bs k. under a.1 k) refl ((array_reads signer a.0 ts).read p x a.2)

manifest_reads : (signer : ℕ) → Reads (manifest_map signer) (ManifestOf signer)
manifest_reads signer = reads_map (triples_under signer) (TriplesUnder signer) (under_reads signer) []

pub manifest_written : (signer : ℕ) (m : List ℕ) (ts : List Triple) → ManifestOf signer ts m → triples_of signer m ≡ Ok ts
manifest_written signer = whole_written (manifest_reads signer)

pub manifest_read : (signer : ℕ) (m : List ℕ) (ts : List Triple) → triples_of signer m ≡ Ok ts → ManifestOf signer ts m
manifest_read signer = whole_read (manifest_reads signer)
