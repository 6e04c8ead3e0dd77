use Rattle.std.specs.Prelude.{ℕ, zero, suc, ◌+◌, Some, None, Ok, nat_lt}
use Rattle.refusals.specs.Reading.{Outcome, onward, keeps, need, above}
use Rattle.refusals.specs.declared.Refusal.TheVariants.{Unknown, Missing}
use Rattle.parts.specs.Holders.{Element}
use Rattle.parts.specs.Parts.{Piece, after}
use Rattle.parts.specs.declared.kinds.Read.{Read}
use Rattle.cbor.specs.Scalars.{Rule, number_at, array_at, map_at}
use Rattle.cbor.specs.declared.kinds.Keyed.{Keyed}

-- so many elements of a part, behind the first `used` bytes
abbrev pub counted_from : {S : Type 0} → Element S → ℕ → S → ℕ → Rule S
counted_from element zero s used p = Ok (record { value = s; size = used })
counted_from element (suc n) s used p = onward (element s (after used p)) (λ r. counted_from element n r.value (used + r.size) p)

-- an array that is not empty: each element adds to what was read before it
abbrev pub array_by : {S : Type 0} → Element S → S → Rule S
array_by element s p =
    onward (array_at p) (λ n.
    need (nat_lt 0 n.value) (Missing p.at)
    (counted_from element n.value s n.size p))

-- what a map's value adds to what was read before it: by its key, the key's place, and the part that begins with the value
abbrev pub Under : Type 0 → Type 0
Under F = F → ℕ → ℕ → Piece → Outcome (Read F)

-- a key above the one before it, and its value
abbrev pub entry_at : {F : Type 0} → Under F → Element (Keyed F)
entry_at under s p =
    onward (number_at p) (λ key.
    need (above s.last key.value) (Unknown p.at)
    (onward (under s.fields key.value p.at (after key.size p)) (λ x.
    Ok (record { value = record { last = Some key.value; fields = x.value }; size = key.size + x.size }))))

-- a map that is not empty
abbrev pub map_by : {F : Type 0} → Under F → F → Rule F
map_by under s p =
    onward (map_at p) (λ n.
    need (nat_lt 0 n.value) (Missing p.at)
    (keeps (counted_from (entry_at under) n.value (record { last = None; fields = s }) n.size p)
    (λ r. record { value = r.value.fields; size = r.size })))
