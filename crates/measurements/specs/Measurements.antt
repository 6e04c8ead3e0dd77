use Rattle.std.specs.Prelude.{true, false, cond, Ok, Err, ◌==◌}
use Rattle.refusals.specs.Reading.{onward, need}
use Rattle.refusals.specs.declared.Refusal.TheVariants.{Unknown, Missing}
use Rattle.conditions.specs.Wanted.{no_wanted, with_key, with_listed, some_wanted}
use Rattle.conditions.specs.declared.kinds.Wanted.{Wanted}
use Rattle.cbor.specs.Holders.{Under, map_by}
use Rattle.cbor.specs.Scalars.{Rule, stores, number_to}
use Rattle.measurements.specs.Listed.{authority_array}
use Rattle.measurements.specs.Values.{values_map}
use Rattle.measurements.specs.declared.kinds.Allowed.{Allowed}
use Rattle.measurements.specs.declared.kinds.InMeasurement.{InMeasurement}

-- a condition may list authorities and ask for a minimum, an addition may not

abbrev pub in_condition : Allowed
in_condition = record { authorities = true; minimum = true }

abbrev pub in_addition : Allowed
in_addition = record { authorities = false; minimum = false }

abbrev pub in_measurement : InMeasurement → Wanted → InMeasurement
in_measurement s w = record { allowed = s.allowed; wanted = w }

-- 0 element key, 1 values, 2 authorities, where they may be listed
abbrev pub measurement_field : Under InMeasurement
measurement_field s key at p =
    cond (key == 0) (stores (number_to 65535 p) (λ n. in_measurement s (with_key s.wanted n)))
    (cond (key == 1) (stores (values_map s.allowed.minimum s.wanted p) (in_measurement s))
    (cond (key == 2) (need s.allowed.authorities (Unknown at) (stores (authority_array p) (λ x. in_measurement s (with_listed s.wanted x))))
    (Err (Unknown at))))

-- a measurement map, which must have values
abbrev pub measurement_map : Allowed → Rule Wanted
measurement_map allowed p =
    onward (map_by measurement_field (record { allowed = allowed; wanted = no_wanted }) p) (λ r.
    need (some_wanted r.value.wanted) (Missing p.at)
    (Ok (record { value = r.value.wanted; size = r.size })))
