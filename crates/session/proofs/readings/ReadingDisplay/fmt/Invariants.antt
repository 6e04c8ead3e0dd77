use Rattle.std.proofs.Common.{take}
use Rattle.std.specs.Fmt.{HasWritten, IsPlainFormatter}
use Rattle.session.specs.Readings.{claim_lines, claims_of}
use Rattle.session.proofs.readings.ReadingDisplay.fmt.Given as goal

abbrev pub invariant-loop-n : goal.invariant-loop-n
invariant-loop-n g l =
    IsPlainFormatter l.initial.f
    → HasWritten g.W.Write.write_str_gives l.initial.f (claim_lines (take l.n (claims_of (g.F.Format.reads l.self.format.now l.self.message.now)))) l.f
