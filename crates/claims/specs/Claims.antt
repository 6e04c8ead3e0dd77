use Rattle.std.specs.Prelude.{None}
use Rattle.claims.specs.Environments.{no_environment}
use Rattle.claims.specs.Values.{no_values}
use Rattle.claims.specs.declared.kinds.Claim.{Claim}

-- a claim of nothing yet
abbrev pub no_claim : Claim
no_claim = record { environment = no_environment; key = None; values = no_values }
