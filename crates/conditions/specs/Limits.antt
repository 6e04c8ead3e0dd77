use Rattle.std.specs.Prelude.{◌≡◌, ◌≤◌, true, IfSome}
use Rattle.claims.specs.Limits.{WithinEnvironment, ValuesFit}
use Rattle.conditions.specs.Wanted.{some_wanted}
use Rattle.conditions.specs.declared.kinds.Condition.{Condition}
use Rattle.conditions.specs.declared.kinds.Wanted.{Wanted}

-- each thing that is wanted is within its limits
pub record WantedFits (w : Wanted) : Type 0 where
  pub key : IfSome w.key (λ n. n ≤ 65535)
  pub values : ValuesFit w.values
  pub minimum : IfSome w.minimum (λ n. n ≤ 4294967295)

-- and some value is
pub record WithinWanted (w : Wanted) : Type 0 where
  pub some : some_wanted w ≡ true
  pub fits : WantedFits w

pub record WithinCondition (c : Condition) : Type 0 where
  pub environment : WithinEnvironment c.environment
  pub wanted : IfSome c.wanted WithinWanted
