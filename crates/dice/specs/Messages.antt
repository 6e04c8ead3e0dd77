use Rattle.std.specs.Prelude.{ℕ, List, [], ◌∷◌, Some, None, Ok, Option}
use Rattle.refusals.specs.Reading.{Outcome, onward, keeps, need, or_refuse}
use Rattle.refusals.specs.declared.Refusal.TheVariants.{Malformed, Missing}
use Rattle.claims.specs.Environments.{with_instance}
use Rattle.claims.specs.Limits.{stands}
use Rattle.claims.specs.declared.kinds.Bytes.{Bytes}
use Rattle.claims.specs.declared.kinds.Claim.{Claim}
use Rattle.parts.specs.Holders.{elements_in}
use Rattle.parts.specs.Parts.{some, none}
use Rattle.der.specs.Kinds.{Holder, is_sequence, item_at}
use Rattle.parts.specs.Parts.{whole_of}
use Rattle.evidence.specs.Readings.{Reading}
use Rattle.dice.specs.Extensions.{extension_at, no_extensions}
use Rattle.dice.specs.Fields.{in_environment}
use Rattle.dice.specs.declared.kinds.Extensions.{Extensions}

-- the claim of DiceTcbInfo, on the instance of DiceUeid where there is one
abbrev pub on_instance : Claim → Option (Bytes 33) → Claim
on_instance c None = c
on_instance c (Some b) = in_environment c (with_instance c.environment b)

-- the claim that the extensions of a SEQUENCE told, behind which nothing follows; it must have an environment and a value
abbrev pub claim_told : Extensions → Holder → Outcome Claim
claim_told x h =
    or_refuse x.info (Missing 0) (λ c.
    need (none h.rest) (Malformed h.rest.at)
    (need (stands (on_instance c x.instance)) (Missing 0)
    (Ok (on_instance c x.instance))))

-- the claim of a message: a SEQUENCE of extensions
abbrev pub message_of : List ℕ → Outcome Claim
message_of m =
    onward (item_at is_sequence (whole_of m)) (λ h.
    need (some h.content) (Missing 0)
    (onward (elements_in extension_at no_extensions h.content) (λ x.
    claim_told x h)))

-- the reading of a message
abbrev pub reading : List ℕ → Reading
reading m = keeps (message_of m) (λ c. c ∷ [])
