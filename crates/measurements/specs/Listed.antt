use Rattle.std.specs.Prelude.{ℕ, Some, None, Ok, nat_lt}
use Rattle.refusals.specs.Reading.{onward, need, above}
use Rattle.refusals.specs.declared.Refusal.TheVariants.{Unknown, OutOfLimits}
use Rattle.authorities.specs.Sets.{no_authorities, with_authority}
use Rattle.authorities.specs.declared.kinds.Authorities.{Authorities}
use Rattle.parts.specs.Holders.{Element}
use Rattle.cbor.specs.Holders.{array_by}
use Rattle.cbor.specs.Scalars.{Rule, stores, number_at}
use Rattle.measurements.specs.declared.kinds.InAuthorities.{InAuthorities}

abbrev pub none_listed : InAuthorities
none_listed = record { last = None; listed = no_authorities }

-- one authority more
abbrev pub listing : InAuthorities → ℕ → InAuthorities
listing s n = record { last = Some n; listed = with_authority s.listed n }

-- an authority, 0 to 63, above the one before it
abbrev pub authority_at : Element InAuthorities
authority_at s p =
    onward (number_at p) (λ n.
    need (above s.last n.value) (Unknown p.at)
    (need (nat_lt n.value 64) (OutOfLimits p.at)
    (Ok (record { value = listing s n.value; size = n.size }))))

-- a rising array of authorities
abbrev pub authority_array : Rule Authorities
authority_array p = stores (array_by authority_at none_listed p) (λ s. s.listed)
