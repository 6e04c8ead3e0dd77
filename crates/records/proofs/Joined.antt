use Rattle.std.proofs.Common.{◌≡◌, ℕ, ◌+◌, ◌<◌, ◌≤◌, List, map, length, get_or, drop, sym, ap, ◌∙◌}
use Rattle.std.proofs.lemmas.List.{at_drop_more, at_drop_all}
use Rattle.claims.specs.declared.kinds.Claim.{Claim}
use Rattle.conditions.specs.declared.kinds.Condition.{Condition}
use Rattle.records.specs.Additions.{claim_of, joined_all}
use Rattle.records.specs.Few.{joined}
use Rattle.records.specs.declared.kinds.Few.{Few}

-- one more addition joins those before it
pub joined_more : (xs ms : List Condition) (i : ℕ) (d : Condition) (s t : Few Claim) (x : Claim) (all : Few Claim) → xs ≡ ms → i < length xs
    → x ≡ claim_of (get_or xs i d) → t ≡ joined s x → joined_all s (map claim_of (drop i ms)) ≡ all → joined_all t (map claim_of (drop (i + 1) ms)) ≡ all
joined_more xs ms i d s t x all same below first then inv =
    let split = at_drop_more (λ (l : List Condition). joined_all s (map claim_of l)) xs i d below in
    ap (λ (l : List Condition). joined_all t (map claim_of (drop (i + 1) l))) (sym same)
    ∙ ap (λ (y : Few Claim). joined_all y (map claim_of (drop (i + 1) xs))) (then ∙ ap (joined s) first)
    ∙ sym split
    ∙ ap (λ (l : List Condition). joined_all s (map claim_of (drop i l))) same
    ∙ inv

pub joined_all_lem : (xs ms : List Condition) (i : ℕ) (s all : Few Claim) → xs ≡ ms → length xs ≤ i → joined_all s (map claim_of (drop i ms)) ≡ all → s ≡ all
joined_all_lem xs ms i s all same past inv =
    sym (at_drop_all (λ (l : List Condition). joined_all s (map claim_of l)) xs i past)
    ∙ ap (λ (l : List Condition). joined_all s (map claim_of (drop i l))) same
    ∙ inv
