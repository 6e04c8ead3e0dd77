use Rattle.std.proofs.Common.{sym, arith, rules}
use Rattle.std.proofs.Output.{has_written_append, has_written_of_eq}
use Rattle.session.proofs.Told.{lines_more, reading_told}
use Rattle.session.proofs.readings.ReadingDisplay.fmt.Goals as goal

pub loop-n-preserved : goal.loop-n-preserved
loop-n-preserved g c plain =
    let r = c.args.self.now in
    let told = reading_told (g.F.Format.reads r.format.now) r.message.now c.in-Ok.count (sym c.in-Ok.ensures) in
    has_written_of_eq _ _ _ _ _ (lines_more (g.F.Format.reads r.format.now r.message.now) c.loop-n.n c.in-Ok-claim.claim (omega (arith, told.0)) c.in-Ok-claim.ensures)
    (has_written_append _ _ _ _ _ _ (c.loop-n.invariant plain) (search rules))
