use Rattle.std.proofs.Common.{ℕ, List}
use Rattle.parts.proofs.Sound.{sound_made, sound_refused}
use Rattle.measurements.specs.Measurements.{in_condition}
use Rattle.records.specs.Laws.{RuleAsWritten}
use Rattle.records.specs.Limits.{WithinConditions}
use Rattle.records.specs.Records.{judged}
use Rattle.records.proofs.Limits.{rule_limits}
use Rattle.records.proofs.Written.{records_reads, whole_read, whole_written}

pub rule_as_written : (m : List ℕ) → RuleAsWritten m
rule_as_written m = record {
  read = whole_read (records_reads in_condition) m;
  written = whole_written (records_reads in_condition) m;
  limits = sound_made WithinConditions (judged m) (rule_limits m);
  refusals = sound_refused WithinConditions (judged m) (rule_limits m);
}
