use Rattle.std.specs.Prelude.{◌≡◌, ℕ, List, IfOk, IfErr, Ok}
use Rattle.refusals.specs.Figures.{OfReader}
use Rattle.conditions.specs.declared.kinds.Condition.{Condition}
use Rattle.measurements.specs.Measurements.{in_condition}
use Rattle.records.specs.Layout.{RecordsOf}
use Rattle.records.specs.Limits.{WithinConditions}
use Rattle.records.specs.Records.{judged}
use Rattle.records.specs.declared.kinds.Few.{Few}

-- a message is read as the conditions of a booking rule exactly when it writes them; then there are one to four, within their limits; and a
-- message that is no booking rule is refused for an item or a record
pub record RuleAsWritten (m : List ℕ) : Type 0 where
  pub read : (cs : Few Condition) → judged m ≡ Ok cs → RecordsOf in_condition cs m
  pub written : (cs : Few Condition) → RecordsOf in_condition cs m → judged m ≡ Ok cs
  pub limits : IfOk (judged m) WithinConditions
  pub refusals : IfErr (judged m) OfReader
