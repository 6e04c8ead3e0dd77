use Rattle.std.specs.Prelude.{ℕ, zero, suc, cond, length, Ok, ◌==◌}
use Rattle.refusals.specs.Reading.{Outcome, onward}
use Rattle.parts.specs.Parts.{Piece, after}
use Rattle.parts.specs.declared.kinds.Read.{Read}

-- what an element adds to what was read before it, and how many bytes it has
abbrev pub Element : Type 0 → Type 0
Element S = S → Piece → Outcome (Read S)

-- the elements that fill a part; each has bytes of its own, so n steps do where there are n bytes
abbrev pub elements : {S : Type 0} → Element S → ℕ → S → Piece → Outcome S
elements element zero s p = Ok s
elements element (suc n) s p =
    cond (length p.bytes == 0) (Ok s)
    (onward (element s p) (λ r. elements element n r.value (after r.size p)))

abbrev pub elements_in : {S : Type 0} → Element S → S → Piece → Outcome S
elements_in element s p = elements element (length p.bytes) s p
