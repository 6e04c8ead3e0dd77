use Rattle.std.specs.Prelude.{ℕ, ◌<◌, ◌≤◌, Option, length, IfOk}
use Rattle.std.specs.Option.{option_map}
use Rattle.refusals.specs.Reading.{Outcome}
use Rattle.parts.specs.Parts.{Piece}
use Rattle.parts.specs.declared.kinds.Read.{Read}

-- what was read has bytes of its own, all of them of the part
abbrev pub IsWithin : {A : Type 0} → Piece → Read A → Type 0
IsWithin p x = (0 < x.size) × (x.size ≤ length p.bytes)

-- what is read, if something is, is taken from the beginning of the part
abbrev pub TakenFrom : {A : Type 0} → Piece → Outcome (Read A) → Type 0
TakenFrom p r = IfOk r (IsWithin p)

-- what there is, as read from so many bytes
abbrev pub of_size : {A : Type 0} → ℕ → Option A → Option (Read A)
of_size n = option_map (λ x. record { value = x; size = n })
