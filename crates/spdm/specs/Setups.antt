use Rattle.std.specs.Prelude.{ℕ, List, Ok}
use Rattle.refusals.specs.Reading.{Outcome, or_refuse}
use Rattle.refusals.specs.declared.Refusal.TheVariants.{OutOfLimits}
use Rattle.claims.specs.Bytes.{kept_from}
use Rattle.claims.specs.Digests.{algorithm_of}
use Rattle.spdm.specs.declared.kinds.Setup.{Setup}

-- a class of 1 to 32 bytes and the number of an algorithm
abbrev pub setup_of : List ℕ → ℕ → Outcome Setup
setup_of class algorithm =
    or_refuse (kept_from 32 1 class) (OutOfLimits 0) (λ c.
    or_refuse (algorithm_of algorithm) (OutOfLimits 0) (λ a.
    Ok (record { class = c; algorithm = a })))
