use Rattle.std.specs.Prelude.{List, [], ◌∷◌, map, Some, None, Option}
use Rattle.claims.specs.Claims.{no_claim}
use Rattle.claims.specs.Values.{no_values}
use Rattle.claims.specs.declared.kinds.Claim.{Claim}
use Rattle.claims.specs.declared.kinds.Environment.{Environment}
use Rattle.conditions.specs.declared.kinds.Condition.{Condition}
use Rattle.conditions.specs.declared.kinds.Wanted.{Wanted}
use Rattle.records.specs.Few.{few_of, joined, members}
use Rattle.records.specs.declared.kinds.Few.{Few}

-- what is wanted of an environment, as a claim
abbrev pub claim_with : Environment → Option Wanted → Claim
claim_with e None = record { environment = e; key = None; values = no_values }
claim_with e (Some w) = record { environment = e; key = w.key; values = w.values }

-- what a measurement map of an addition says, as the claim that is added
abbrev pub claim_of : Condition → Claim
claim_of c = claim_with c.environment c.wanted

-- all of a list, one after the other
abbrev pub joined_all : {T : Type 0} → Few T → List T → Few T
joined_all s [] = s
joined_all s (x ∷ xs) = joined_all (joined s x) xs

abbrev pub additions_of : Few Condition → Few Claim
additions_of found = joined_all (few_of no_claim) (map claim_of (members found))
