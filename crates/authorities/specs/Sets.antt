use Rattle.std.specs.Prelude.{ℕ, zero, suc, ◌/◌, ◌%◌, ◌^◌, Bool, cond, ◌&&◌, List, [], ◌∷◌, ◌==◌, bit_and, bit_or, nat_lt}
use Rattle.authorities.specs.declared.kinds.Authorities.{Authorities}

abbrev pub no_authorities : Authorities
no_authorities = record { bits = 0 }

-- authority a is in the set: bit a is set; a number above 63 is no authority
abbrev pub in_set : Authorities → ℕ → Bool
in_set s a = nat_lt a 64 && s.bits / 2 ^ a % 2 == 1

-- the set with one authority more
abbrev pub with_authority : Authorities → ℕ → Authorities
with_authority s a = cond (nat_lt a 64) (record { bits = bit_or s.bits (2 ^ a) }) s

-- both sets together
abbrev pub together : Authorities → Authorities → Authorities
together s t = record { bits = bit_or s.bits t.bits }

-- every bit of the list is a bit of the set
abbrev pub covers : Authorities → Authorities → Bool
covers s listed = bit_and s.bits listed.bits == listed.bits

-- the authorities of a set among n numbers from a on, rising
unfoldable pub members_from : Authorities → ℕ → ℕ → List ℕ
members_from s a zero = []
members_from s a (suc n) = cond (in_set s a) (a ∷ members_from s (suc a) n) (members_from s (suc a) n)

-- the authorities of a set, rising
unfoldable pub members : Authorities → List ℕ
members s = members_from s 0 64
