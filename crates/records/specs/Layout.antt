use Rattle.std.specs.Prelude.{◌≡◌, ℕ, true, List, nat_eq}
use Rattle.claims.specs.declared.kinds.Environment.{Environment}
use Rattle.conditions.specs.Wanted.{no_condition}
use Rattle.conditions.specs.declared.kinds.Condition.{Condition}
use Rattle.cbor.specs.Encodes.{Headed, ArrayOf, Then, Stored, Such}
use Rattle.measurements.specs.Layout.{EnvironmentOf, MeasurementOf}
use Rattle.measurements.specs.declared.kinds.Allowed.{Allowed}
use Rattle.records.specs.Few.{few_of, room, joined}
use Rattle.records.specs.Records.{on_environment, in_record}
use Rattle.records.specs.declared.kinds.Few.{Few}
use Rattle.records.specs.declared.kinds.InRecord.{InRecord}
use Rattle.records.specs.declared.kinds.InRecords.{InRecords}

-- Which bytes write which record.

-- the beginning of a record: the head of an array of two, and an environment map
abbrev pub RecordHead : Environment → List ℕ → Type 0
RecordHead = Then (Such (Headed 4) (λ n. nat_eq n 2)) (λ _. EnvironmentOf)

-- a measurement map, as a condition on the environment of its record
abbrev pub ConditionOf : Allowed → Environment → Condition → List ℕ → Type 0
ConditionOf allowed e = Stored (MeasurementOf allowed) (on_environment e)

-- one of at most four
pub data OneMap (s : InRecord) : InRecord → List ℕ → Type 0 where
  one : {c : Condition} {bs : List ℕ} → room s.found ≡ true → ConditionOf s.allowed s.environment c bs → OneMap s (in_record s (joined s.found c)) bs

-- the array of measurement maps of a record
abbrev pub MapsUnder : Allowed → Few Condition → Environment → Few Condition → List ℕ → Type 0
MapsUnder allowed found e = Stored (ArrayOf OneMap (record { allowed = allowed; environment = e; found = found })) (λ s. s.found)

-- a record, whose measurement maps join those of the records before it
abbrev pub OneRecord : InRecords → InRecords → List ℕ → Type 0
OneRecord s = Then RecordHead (λ e. Stored (MapsUnder s.allowed s.found e) (λ found. record { allowed = s.allowed; found = found }))

-- an array of records
abbrev pub RecordsOf : Allowed → Few Condition → List ℕ → Type 0
RecordsOf allowed = Stored (ArrayOf OneRecord (record { allowed = allowed; found = few_of no_condition })) (λ s. s.found)
