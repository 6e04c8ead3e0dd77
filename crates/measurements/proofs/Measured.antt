use Rattle.std.proofs.Common.{◌≡◌, ℕ, Bool, List, length, None, Ok, ◌∙◌}
use Rattle.refusals.specs.declared.Refusal.TheVariants.{Unknown, Missing}
use Rattle.refusals.proofs.Outcomes.{need_true}
use Rattle.conditions.specs.Wanted.{no_wanted, some_wanted}
use Rattle.conditions.specs.declared.kinds.Wanted.{Wanted}
use Rattle.cbor.specs.Reads.{Reads}
use Rattle.cbor.proofs.Fields.{Back, stores_back, need_field, field_next, field_none}
use Rattle.cbor.proofs.Joins.{reads_made, reads_stores, reads_such_stores}
use Rattle.cbor.proofs.Rows.{reads_map}
use Rattle.cbor.proofs.Rules.{reads_number_to}
use Rattle.cbor.proofs.Strings.{reads_text}
use Rattle.cbor.proofs.Tags.{reads_tagged_bytes}
use Rattle.measurements.specs.Layout.{VersionField, text, VersionOf, ValuesField, version, svn, digests, flags, raw, ValuesOf, MeasurementField, key as keyed, values, authorities, MeasurementOf}
use Rattle.measurements.specs.Measurements.{measurement_field, measurement_map}
use Rattle.measurements.specs.Values.{version_field, version_map, values_field, values_map}
use Rattle.measurements.specs.declared.kinds.Allowed.{Allowed}
use Rattle.measurements.specs.declared.kinds.InMeasurement.{InMeasurement}
use Rattle.measurements.specs.declared.kinds.InValues.{InValues}
use Rattle.measurements.specs.declared.kinds.InVersion.{InVersion}
use Rattle.measurements.proofs.Written.{from, digests_reads, flags_reads, authorities_reads}
use Rattle.measurements.proofs.Numbered.{svn_reads}

-- values and measurements are read exactly as they are written

-- versions

version_written : (s t : InVersion) (key : ℕ) (bs rest : List ℕ) (key_at at : ℕ) → VersionField s key t bs → version_field s key key_at (from at bs rest) ≡ Ok (record { value = t; size = length bs })
version_written s t key bs rest key_at at (text {x = x} k) = rw ((reads_text 32 1).written x bs rest at k)

version_back : (s : InVersion) (key key_at : ℕ) → Back (version_field s key key_at) (VersionField s key)
version_back s key key_at = field_next (VersionField s) key 0 (stores_back (reads_text 32 1) _ (λ x bs k. text k)) (field_none (VersionField s) key (Unknown key_at))

version_reads : Reads version_map VersionOf
version_reads =
    reads_made (reads_map version_field VersionField (λ s key key_at. record { written = λ t bs rest at k. version_written s t key bs rest key_at at k; read = version_back s key key_at }) (record { text = None })) (λ s. s.text) (λ p. Missing p.at)

-- maps of values

values_written : (s t : InValues) (key : ℕ) (bs rest : List ℕ) (key_at at : ℕ) → ValuesField s key t bs → values_field s key key_at (from at bs rest) ≡ Ok (record { value = t; size = length bs })
values_written s t key bs rest key_at at (version {x = x} k) = rw (version_reads.written x bs rest at k)
values_written s t key bs rest key_at at (svn {x = x} k) = rw ((svn_reads s.minimum).written x bs rest at k)
values_written s t key bs rest key_at at (digests {x = x} k) = rw (digests_reads.written x bs rest at k)
values_written s t key bs rest key_at at (flags {x = x} k) = rw (flags_reads.written x bs rest at k)
values_written s t key bs rest key_at at (raw {x = x} k) = rw ((reads_tagged_bytes 560 64 1).written x bs rest at k)

values_back : (s : InValues) (key key_at : ℕ) → Back (values_field s key key_at) (ValuesField s key)
values_back s key key_at =
    field_next (ValuesField s) key 0 (stores_back version_reads _ (λ x bs k. version k))
    (field_next (ValuesField s) key 1 (stores_back (svn_reads s.minimum) _ (λ x bs k. svn k))
    (field_next (ValuesField s) key 2 (stores_back digests_reads _ (λ x bs k. digests k))
    (field_next (ValuesField s) key 3 (stores_back flags_reads _ (λ x bs k. flags k))
    (field_next (ValuesField s) key 4 (stores_back (reads_tagged_bytes 560 64 1) _ (λ x bs k. raw k))
    (field_none (ValuesField s) key (Unknown key_at))))))

values_reads : (minimum : Bool) (w : Wanted) → Reads (values_map minimum w) (ValuesOf minimum w)
values_reads minimum w =
    reads_stores (reads_map values_field ValuesField (λ s key key_at. record { written = λ t bs rest at k. values_written s t key bs rest key_at at k; read = values_back s key key_at }) (record { minimum = minimum; wanted = w })) (λ s. s.wanted)

-- measurement maps

field_written : (s t : InMeasurement) (key : ℕ) (bs rest : List ℕ) (key_at at : ℕ) → MeasurementField s key t bs → measurement_field s key key_at (from at bs rest) ≡ Ok (record { value = t; size = length bs })
field_written s t key bs rest key_at at (keyed {n = n} k) = rw ((reads_number_to 65535).written n bs rest at k)
field_written s t key bs rest key_at at (values {w = w} k) = rw ((values_reads s.allowed.minimum s.wanted).written w bs rest at k)
field_written s t key bs rest key_at at (authorities {x = x} may k) = need_true _ _ _ may ∙ rw (authorities_reads.written x bs rest at k)

field_back : (s : InMeasurement) (key key_at : ℕ) → Back (measurement_field s key key_at) (MeasurementField s key)
field_back s key key_at =
    field_next (MeasurementField s) key 0 (stores_back (reads_number_to 65535) _ (λ x bs k. keyed k))
    (field_next (MeasurementField s) key 1 (stores_back (values_reads s.allowed.minimum s.wanted) _ (λ x bs k. values k))
    (field_next (MeasurementField s) key 2 (need_field s.allowed.authorities (Unknown key_at) (λ may. stores_back authorities_reads _ (λ x bs k. authorities may k)))
    (field_none (MeasurementField s) key (Unknown key_at))))

pub measurement_reads : (allowed : Allowed) → Reads (measurement_map allowed) (MeasurementOf allowed)
measurement_reads allowed =
    reads_such_stores (reads_map measurement_field MeasurementField (λ s key key_at. record { written = λ t bs rest at k. field_written s t key bs rest key_at at k; read = field_back s key key_at }) (record { allowed = allowed; wanted = no_wanted }))
    (λ s. some_wanted s.wanted) (λ s. s.wanted) (λ p. Missing p.at)
