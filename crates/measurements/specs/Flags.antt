use Rattle.std.specs.Prelude.{ℕ, Bool, Some, nat_lt, slice_set}
use Rattle.refusals.specs.Reading.{need}
use Rattle.refusals.specs.declared.Refusal.TheVariants.{Unknown}
use Rattle.claims.specs.Values.{no_flags}
use Rattle.claims.specs.declared.kinds.Flags.{Flags}
use Rattle.cbor.specs.Holders.{Under, map_by}
use Rattle.cbor.specs.Scalars.{Rule, stores, truth_at}
use Rattle.measurements.specs.declared.kinds.InFlags.{InFlags}

-- one flag more
abbrev pub with_flag : Flags → ℕ → Bool → Flags
with_flag s n b = record { states = slice_set s.states n (Some b) }

-- flags 0 to 9, each true or false
abbrev pub flag_field : Under InFlags
flag_field s key at p = need (nat_lt key 10) (Unknown at) (stores (truth_at p) (λ b. record { flags = with_flag s.flags key b }))

abbrev pub flag_map : Rule Flags
flag_map p = stores (map_by flag_field (record { flags = no_flags }) p) (λ s. s.flags)
