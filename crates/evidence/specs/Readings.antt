use Rattle.std.specs.Prelude.{ℕ, List, length, IfOk, IfErr}
use Rattle.std.specs.Option.{ok_or}
use Rattle.std.specs.List.{AllByRecursion, slice_get}
use Rattle.refusals.specs.Figures.{OfReader}
use Rattle.refusals.specs.Reading.{Outcome, onward, keeps}
use Rattle.refusals.specs.declared.Refusal.TheVariants.{NoSuchNumber}
use Rattle.claims.specs.Limits.{Within}
use Rattle.claims.specs.declared.kinds.Claim.{Claim}

-- what a format makes of a message: a list of claims, or one refusal
abbrev pub Reading : Type 0
Reading = Outcome (List Claim)

-- how many claims there are
abbrev pub counted : Reading → Outcome ℕ
counted r = keeps r length

-- claim n, from 0; beyond them the refusal tells their number
abbrev pub claim_at : Reading → ℕ → Outcome Claim
claim_at r n = onward r (λ cs. ok_or (slice_get cs n) (NoSuchNumber (length cs)))

-- every claim keeps its limits
abbrev pub KeepsLimits : Reading → Type 0
KeepsLimits r = IfOk r (AllByRecursion Within)

-- a reader refuses for an item or a record, and for nothing else
abbrev pub RefusesAsReader : Reading → Type 0
RefusesAsReader r = IfErr r OfReader
