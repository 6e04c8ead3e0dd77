use Rattle.std.proofs.Common.{◌≡◌, Bool, List, ℕ, false, ◌++◌, drop}
use denote.Text.{Utf8}
use denote.Shadow.{shadow}
use Rattle.std.specs.Fmt.{HasWritten, IsPlainFormatter}
use Rattle.text.specs.Claims.{flag_lead, flags_from}
use Rattle.text.proofs.claim.FlagsTextDisplay.fmt.Given as goal

abbrev pub invariant-loop-number : goal.invariant-loop-number
invariant-loop-number g l =
    shadow (Utf8 l.lead)
    × ((later : Bool) × (bs : List ℕ) × (l.lead ≡ flag_lead later)
    × (bs ++ flags_from later l.number-counter (drop l.number-counter l.self.0.now) ≡ flags_from false 0 l.self.0.now)
    × (IsPlainFormatter l.initial.f → HasWritten g.W.Write.write_str_gives l.initial.f bs l.f))
