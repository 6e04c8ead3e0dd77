use Rattle.std.specs.Prelude.{ℕ, ◌+◌, min, cond, List, length, Some, ◌==◌}
use Rattle.std.specs.List.{slice_get}
use Rattle.parts.specs.declared.kinds.Pick.{Pick}

-- what is kept of a list: how many there are, and the one of the number `wanted`
abbrev pub picked : {T : Type 0} → ℕ → List T → Pick T
picked wanted xs = record { seen = length xs; kept = slice_get xs wanted }

-- one more came by; the count stops at the largest number of 64 bits
abbrev pub noted : {T : Type 0} → ℕ → Pick T → T → Pick T
noted wanted p x = record { seen = min (p.seen + 1) 18446744073709551615; kept = cond (p.seen == wanted) (Some x) p.kept }
