use Rattle.std.proofs.Common.{◌≡◌, ℕ, ◌≤◌, not, ltb, List, [], ◌++◌, length, Ok, sym, ap, ◌∙◌, subst, arith}
use Rattle.std.proofs.lemmas.List.{append-nil, length-append, nil_from_length}
use Rattle.std.proofs.lemmas.Bool.{not-true, not_from_false, ltb-false, le-ltb}
use Rattle.refusals.specs.Reading.{Outcome, onward, need}
use Rattle.refusals.specs.declared.Refusal.TheVariants.{Malformed, OutOfLimits}
use Rattle.refusals.proofs.Outcomes.{onward_back, need_back, need_true, ok_same}
use Rattle.claims.specs.declared.kinds.Environment.{Environment}
use Rattle.conditions.specs.Wanted.{no_wanted, no_condition}
use Rattle.conditions.specs.declared.kinds.Condition.{Condition}
use Rattle.conditions.specs.declared.kinds.Wanted.{Wanted}
use Rattle.parts.specs.Parts.{Piece, whole_of}
use Rattle.parts.specs.declared.kinds.Read.{Read}
use Rattle.cbor.specs.Encodes.{MapOf, mapped, stored}
use Rattle.cbor.specs.Reads.{Begins, Reads}
use Rattle.cbor.specs.Scalars.{Rule, stores, map_at}
use Rattle.cbor.proofs.Fields.{stores_back}
use Rattle.cbor.proofs.Joins.{reads_stores, reads_then, first_written}
use Rattle.cbor.proofs.Rows.{reads_array}
use Rattle.cbor.proofs.Rules.{reads_array_of, reads_map_head}
use Rattle.measurements.specs.Layout.{MeasurementOf, MeasurementField}
use Rattle.measurements.specs.declared.kinds.Allowed.{Allowed}
use Rattle.measurements.specs.declared.kinds.InMeasurement.{InMeasurement}
use Rattle.measurements.proofs.Written.{from, environment_reads}
use Rattle.measurements.proofs.Measured.{measurement_reads}
use Rattle.records.specs.Few.{few_of, room, joined}
use Rattle.records.specs.Layout.{RecordHead, ConditionOf, OneMap, one, MapsUnder, OneRecord, RecordsOf}
use Rattle.records.specs.Records.{record_head, in_record, on_environment, condition_at, map_at_most, maps_under, record_at, records_of}
use Rattle.records.specs.declared.kinds.Few.{Few}
use Rattle.records.specs.declared.kinds.InRecord.{InRecord}
use Rattle.records.specs.declared.kinds.InRecords.{InRecords}

-- records are read exactly as they are written

pub head_reads : Reads record_head RecordHead
head_reads = reads_then (reads_array_of 2) (λ _. environment_reads)

pub condition_reads : (allowed : Allowed) (e : Environment) → Reads (condition_at allowed e) (ConditionOf allowed e)
condition_reads allowed e = reads_stores (measurement_reads allowed) (on_environment e)

-- a measurement map begins with the head of a map

abbrev begun : Allowed → InMeasurement
begun allowed = record { allowed = allowed; wanted = no_wanted }

fields_first : (s t : InMeasurement) (bs rest : List ℕ) (at : ℕ) → MapOf MeasurementField s t bs → (n : Read ℕ) × (map_at (from at bs rest) ≡ Ok n)
fields_first s _ _ rest at (mapped {n = n} {h = h} {bs = b} k positive row) = (record { value = n; size = length h }, first_written reads_map_head n h b rest at k)

measured_first : (allowed : Allowed) (w : Wanted) (bs rest : List ℕ) (at : ℕ) → MeasurementOf allowed w bs → (n : Read ℕ) × (map_at (from at bs rest) ≡ Ok n)
measured_first allowed _ bs rest at (stored {x = t} m) = fields_first (begun allowed) t bs rest at m.0

condition_first : (allowed : Allowed) (e : Environment) (c : Condition) (bs rest : List ℕ) (at : ℕ) → ConditionOf allowed e c bs → (n : Read ℕ) × (map_at (from at bs rest) ≡ Ok n)
condition_first allowed e _ bs rest at (stored {x = w} k) = measured_first allowed w bs rest at k

one_reads : (s : InRecord) → Reads (map_at_most s) (OneMap s)
one_reads s = record { written = forth; read = back }
  where
    at_most : Piece → Outcome (Read InRecord)
    at_most p = need (room s.found) (OutOfLimits p.at) (stores (condition_at s.allowed s.environment p) (λ x. in_record s (joined s.found x)))

    forth : (t : InRecord) (bs rest : List ℕ) (at : ℕ) → OneMap s t bs → map_at_most s (from at bs rest) ≡ Ok (record { value = t; size = length bs })
    forth t bs rest at (one {c = c} free k) =
        let n = condition_first s.allowed s.environment c bs rest at k in
        let head : map_at (from at bs rest) ≡ Ok n.0 = n.1 in
        ap (λ (r : Outcome (Read ℕ)). onward r (λ _. at_most (from at bs rest))) head
        ∙ need_true _ _ _ free
        ∙ ap (λ (r : Outcome (Read Condition)). stores r (λ x. in_record s (joined s.found x))) ((condition_reads s.allowed s.environment).written c bs rest at k)

    back : (p : Piece) (x : Read InRecord) → map_at_most s p ≡ Ok x → Begins (OneMap s) p x
    back p x e =
        let a = onward_back (map_at p) _ x e in
        let b = need_back (room s.found) _ _ x a.2 in
        stores_back (condition_reads s.allowed s.environment) _ (λ c bs k. one b.0 k) p x b.1

pub maps_reads : (allowed : Allowed) (found : Few Condition) (e : Environment) → Reads (maps_under allowed found e) (MapsUnder allowed found e)
maps_reads allowed found e = reads_stores (reads_array map_at_most OneMap one_reads (record { allowed = allowed; environment = e; found = found })) (λ s. s.found)

record_reads : (s : InRecords) → Reads (record_at s) (OneRecord s)
record_reads s = reads_then head_reads (λ e. reads_stores (maps_reads s.allowed s.found e) (λ found. record { allowed = s.allowed; found = found }))

pub records_reads : (allowed : Allowed) → Reads (records_of allowed) (RecordsOf allowed)
records_reads allowed = reads_stores (reads_array record_at OneRecord record_reads (record { allowed = allowed; found = few_of no_condition })) (λ s. s.found)

-- a message that a rule reads with nothing left over is bytes of its kind, and the other way round

abbrev pub whole : {A : Type 0} → Rule A → List ℕ → Outcome A
whole rule m = onward (rule (whole_of m)) (λ r. need (not (ltb r.size (length m))) (Malformed r.size) (Ok r.value))

pub whole_read : {A : Type 0} {rule : Rule A} {Kind : A → List ℕ → Type 0} → Reads rule Kind → (m : List ℕ) (x : A) → whole rule m ≡ Ok x → Kind x m
whole_read {A = A} {rule = rule} {Kind = Kind} reads m x e =
    let o = onward_back (rule (whole_of m)) _ x e in
    let n = need_back (not (ltb o.0.size (length m))) _ _ x o.2 in
    let b = reads.read (whole_of m) o.0 o.1 in
    let all : length m ≤ o.0.size = ltb-false _ _ (not-true _ n.0) in
    let none : b.rest ≡ [] = nil_from_length b.rest (omega (arith, ap length b.whole, length-append b.bytes b.rest, b.long)) in
    let same : b.bytes ≡ m = sym (append-nil b.bytes) ∙ ap (λ (l : List ℕ). b.bytes ++ l) (sym none) ∙ sym b.whole in
    subst (λ (l : List ℕ). Kind x l) same (subst (λ (y : A). Kind y b.bytes) (ok_same o.0.value x n.1) b.kind)

pub whole_written : {A : Type 0} {rule : Rule A} {Kind : A → List ℕ → Type 0} → Reads rule Kind → (m : List ℕ) (x : A) → Kind x m → whole rule m ≡ Ok x
whole_written {A = A} {rule = rule} reads m x k =
    let found : rule (whole_of m) ≡ Ok (record { value = x; size = length m }) = ap (λ (l : List ℕ). rule (record { at = 0; bytes = l })) (sym (append-nil m)) ∙ reads.written x m [] 0 k in
    ap (λ (r : Outcome (Read A)). onward r (λ y. need (not (ltb y.size (length m))) (Malformed y.size) (Ok y.value))) found
    ∙ need_true _ _ _ (not_from_false _ (le-ltb (length m) (length m) (omega arith)))
