use Rattle.std.proofs.Common.{◌≡◌, ℕ, ◌+◌, ◌<◌, List, [], ◌∷◌, ◌++◌, length, get_or, take, Ok, Err, sym, ap, ◌∙◌, arith}
use Rattle.std.proofs.lemmas.List.{flat_map_more, take_more}
use Rattle.std.proofs.lemmas.Option.{slice_get-get_or}
use Rattle.refusals.specs.Reading.{Outcome, onward, keeps, admitted}
use Rattle.claims.specs.declared.kinds.Claim.{Claim}
use Rattle.evidence.specs.Readings.{Reading, claim_at}
use Rattle.session.specs.Readings.{claim_line, claim_lines, claims_of, heading, heard_by, reading_text}

claim_is : (cs : List Claim) (d : Claim) (n : ℕ) → n < length cs → claim_at (Ok cs) n ≡ Ok (get_or cs n d)
claim_is cs d n h = rw (slice_get-get_or cs n d h)

-- one claim more stands at the end
pub lines_more : (r : Reading) (n : ℕ) (claim : Claim) → n < length (claims_of r) → Ok claim ≡ claim_at r n
    → claim_lines (take n (claims_of r)) ++ claim_line claim ≡ claim_lines (take (n + 1) (claims_of r))
lines_more (Err e) n claim h k = absurd (omega arith)
lines_more (Ok []) n claim h k = absurd (omega arith)
lines_more (Ok (c ∷ cs)) n claim h k =
    let all : List Claim = c ∷ cs in
    let p : Ok claim ≡ Ok (get_or all n c) = k ∙ claim_is all c n h in
    let e : claim ≡ get_or all n c = cc in
    ap (λ (x : Claim). claim_lines (take n all) ++ claim_line x) e
    ∙ flat_map_more claim_line [] (take n all) (get_or all n c)
    ∙ ap (λ (l : List Claim). claim_lines l) (sym (take_more all n c h))

-- what the count of an admitted message tells of its text
counted_told : (a : Outcome (Unit {0})) (r : Reading) (n : ℕ) → keeps (onward a (λ _. r)) length ≡ Ok n
    → (n ≡ length (claims_of r)) × (reading_text (onward a (λ _. r)) ≡ heading n ++ claim_lines (claims_of r))
counted_told (Ok _) (Ok cs) n e =
    let k : length cs ≡ n = grind arith in
    (sym k, ap (λ (i : ℕ). heading i ++ claim_lines cs) k)
counted_told (Ok _) (Err x) n e = absurd (grind arith)
counted_told (Err x) r n e = absurd (grind arith)

pub reading_told : (reads : List ℕ → Reading) (m : List ℕ) (n : ℕ) → keeps (heard_by reads m) length ≡ Ok n
    → (n ≡ length (claims_of (reads m))) × (reading_text (heard_by reads m) ≡ heading n ++ claim_lines (claims_of (reads m)))
reading_told reads m n e = counted_told (admitted m) (reads m) n e
