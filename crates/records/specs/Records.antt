use Rattle.std.specs.Prelude.{ℕ, not, List, length, Some, Ok, nat_lt}
use Rattle.refusals.specs.Reading.{Outcome, onward, need}
use Rattle.refusals.specs.declared.Refusal.TheVariants.{Malformed, OutOfLimits}
use Rattle.claims.specs.declared.kinds.Environment.{Environment}
use Rattle.conditions.specs.Wanted.{no_condition}
use Rattle.conditions.specs.declared.kinds.Condition.{Condition}
use Rattle.conditions.specs.declared.kinds.Wanted.{Wanted}
use Rattle.parts.specs.Holders.{Element}
use Rattle.parts.specs.Parts.{whole_of}
use Rattle.cbor.specs.Holders.{array_by}
use Rattle.cbor.specs.Scalars.{Rule, stores, then, map_at, array_of}
use Rattle.measurements.specs.Environments.{environment_map}
use Rattle.measurements.specs.Measurements.{measurement_map, in_condition}
use Rattle.measurements.specs.declared.kinds.Allowed.{Allowed}
use Rattle.records.specs.Few.{few_of, room, joined}
use Rattle.records.specs.declared.kinds.Few.{Few}
use Rattle.records.specs.declared.kinds.InRecord.{InRecord}
use Rattle.records.specs.declared.kinds.InRecords.{InRecords}

-- the beginning of a record: an array of two, the first an environment map
abbrev pub record_head : Rule Environment
record_head = then (array_of 2) (λ _. environment_map)

-- what is wanted, of an environment
abbrev pub on_environment : Environment → Wanted → Condition
on_environment e w = record { environment = e; wanted = Some w }

-- a measurement map, as a condition on the environment of its record
abbrev pub condition_at : Allowed → Environment → Rule Condition
condition_at allowed e p = stores (measurement_map allowed p) (on_environment e)

abbrev pub in_record : InRecord → Few Condition → InRecord
in_record s found = record { allowed = s.allowed; environment = s.environment; found = found }

-- one of at most four: a fifth is refused once the head of its map is read
abbrev pub map_at_most : Element InRecord
map_at_most s p =
    onward (map_at p) (λ _.
    need (room s.found) (OutOfLimits p.at)
    (stores (condition_at s.allowed s.environment p) (λ c. in_record s (joined s.found c))))

-- the array of measurement maps of a record, which join those before them
abbrev pub maps_under : Allowed → Few Condition → Environment → Rule (Few Condition)
maps_under allowed found e p = stores (array_by map_at_most (record { allowed = allowed; environment = e; found = found }) p) (λ s. s.found)

-- a record
abbrev pub record_at : Element InRecords
record_at s = then record_head (λ e p. stores (maps_under s.allowed s.found e p) (λ found. record { allowed = s.allowed; found = found }))

-- an array of records, with at most four measurement maps in all
abbrev pub records_of : Allowed → Rule (Few Condition)
records_of allowed p = stores (array_by record_at (record { allowed = allowed; found = few_of no_condition }) p) (λ s. s.found)

-- the conditions of a booking rule: a message that is an array of records, with nothing left over
abbrev pub judged : List ℕ → Outcome (Few Condition)
judged m =
    onward (records_of in_condition (whole_of m)) (λ r.
    need (not (nat_lt r.size (length m))) (Malformed r.size)
    (Ok r.value))
