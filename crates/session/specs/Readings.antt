use Rattle.std.specs.Prelude.{ℕ, List, [], ◌++◌, length, Ok, Err, codes, decimal}
use Rattle.std.specs.List.{flat_map}
use Rattle.refusals.specs.Reading.{onward, admitted}
use Rattle.claims.specs.declared.kinds.Claim.{Claim}
use Rattle.evidence.specs.Readings.{Reading}
use Rattle.text.specs.Refusals.{refusal_text}
use Rattle.text.specs.Claims.{claim_text}

-- the claims that were read
abbrev pub claims_of : Reading → List Claim
claims_of (Ok cs) = cs
claims_of (Err e) = []

-- a message of a length that may be read, by a format
abbrev pub heard_by : (List ℕ → Reading) → List ℕ → Reading
heard_by reads m = onward (admitted m) (λ _. reads m)

-- a claim on a line of its own
abbrev pub claim_line : Claim → List ℕ
claim_line c = codes "\n " ++ claim_text c

abbrev pub claim_lines : List Claim → List ℕ
claim_lines cs = flat_map claim_line cs

abbrev pub heading : ℕ → List ℕ
heading n = codes "read: " ++ (decimal n ++ codes " claims")

-- how many claims there are, and each of them; or the refusal
abbrev pub reading_text : Reading → List ℕ
reading_text (Ok cs) = heading (length cs) ++ claim_lines cs
reading_text (Err e) = refusal_text e
