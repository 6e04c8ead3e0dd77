use Rattle.std.specs.Prelude.{◌≡◌, ◌≤◌, length}
use Rattle.std.specs.List.{AllByRecursion}
use Rattle.conditions.specs.Limits.{WithinCondition}
use Rattle.conditions.specs.declared.kinds.Condition.{Condition}
use Rattle.records.specs.Few.{members}
use Rattle.records.specs.declared.kinds.Few.{Few}

-- at most four, each with a property
pub record Each {T : Type 0} (P : T → Type 0) (s : Few T) : Type 0 where
  pub few : s.count ≤ 4
  pub long : length s.places ≡ 4
  pub all : AllByRecursion P (members s)

-- one to four conditions, each within its limits
pub record WithinConditions (s : Few Condition) : Type 0 where
  pub some : 1 ≤ s.count
  pub each : Each WithinCondition s
