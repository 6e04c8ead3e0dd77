use Rattle.std.specs.Prelude.{◌≡◌, ℕ, Bool, true, cond, ◌&&◌, List, ◌++◌, length, take, is_some, Err, Result, ◌==◌, nat_lt}
use Rattle.std.specs.Option.{option_map, ok_or}
use Rattle.std.specs.Str.{bytes_eq}
use Rattle.refusals.specs.declared.Refusal.{Refusal}
use Rattle.refusals.specs.declared.Refusal.TheVariants.{AuthorityTooHigh, OutOfLimits}
use Rattle.claims.specs.Bytes.{content, kept_from}
use Rattle.lists.specs.Finding.{first_of}
use Rattle.policies.specs.Uses.{Permitted, same_use}
use Rattle.policies.specs.declared.kinds.Use.{Use}
use Rattle.policies.specs.declared.kinds.Grant.{Grant}

-- the first bytes of a class identifier are these
abbrev pub begins : List ℕ → List ℕ → Bool
begins beginning class = bytes_eq beginning (take (length beginning) class)

-- a grant fits its authority and its use, where the class identifier begins so
abbrev pub fits : Grant → Permitted
fits g a u c = g.authority == a && same_use g.usage u && begins (content g.beginning) c

-- that in words: the authority and the use are the grant's, and the class identifier is its beginning with any rest
abbrev pub Fits : Grant → ℕ → Use → List ℕ → Type 0
Fits g a u c = (g.authority ≡ a) × (g.usage ≡ u) × ((rest : List ℕ) × (c ≡ content g.beginning ++ rest))

-- two grants of one authority and one use, the beginning of the first a beginning of the second's
abbrev pub Wider : Grant → Grant → Type 0
Wider g h = (g.authority ≡ h.authority) × (g.usage ≡ h.usage) × (begins (content g.beginning) (content h.beginning) ≡ true)

-- a list of grants permits what some grant fits
abbrev pub grants_permit : List Grant → Permitted
grants_permit gs a u c = is_some (first_of (λ g. fits g a u c) gs)

-- a grant as it is made: the authority is at most 63, then the beginning has at most 32 bytes
abbrev pub granted : ℕ → Use → List ℕ → Result Grant Refusal
granted a u beginning =
    cond (nat_lt 63 a) (Err AuthorityTooHigh)
    (ok_or (option_map (λ b. record { authority = a; usage = u; beginning = b }) (kept_from 32 0 beginning)) (OutOfLimits 0))
