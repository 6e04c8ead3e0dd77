use Rattle.std.specs.Prelude.{ℕ, Bool, ◌||◌, is_some, Some, None}
use Rattle.authorities.specs.Sets.{no_authorities}
use Rattle.authorities.specs.declared.kinds.Authorities.{Authorities}
use Rattle.claims.specs.Environments.{no_environment}
use Rattle.claims.specs.Limits.{some_value}
use Rattle.claims.specs.Values.{no_values}
use Rattle.claims.specs.declared.kinds.Values.{Values}
use Rattle.conditions.specs.declared.kinds.Condition.{Condition}
use Rattle.conditions.specs.declared.kinds.Wanted.{Wanted}

-- nothing is wanted yet
abbrev pub no_wanted : Wanted
no_wanted = record { key = None; values = no_values; minimum = None; authorities = no_authorities }

-- what is wanted, with one thing more

abbrev pub with_key : Wanted → ℕ → Wanted
with_key s x = record { key = Some x; values = s.values; minimum = s.minimum; authorities = s.authorities }

abbrev pub with_values : Wanted → Values → Wanted
with_values s x = record { key = s.key; values = x; minimum = s.minimum; authorities = s.authorities }

abbrev pub with_minimum : Wanted → ℕ → Wanted
with_minimum s x = record { key = s.key; values = s.values; minimum = Some x; authorities = s.authorities }

abbrev pub with_listed : Wanted → Authorities → Wanted
with_listed s x = record { key = s.key; values = s.values; minimum = s.minimum; authorities = x }

-- some value is wanted, be it a minimum
abbrev pub some_wanted : Wanted → Bool
some_wanted w = is_some w.minimum || some_value w.values

-- what fills the places of a row that hold no condition
abbrev pub no_condition : Condition
no_condition = record { environment = no_environment; wanted = None }
