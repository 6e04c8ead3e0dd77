use Rattle.std.proofs.Common.{sym, ◌∙◌, arith}
use Rattle.script.proofs.Decimal.{read_more, read_bad, read_all}
use Rattle.script.proofs.numbers.read_number.Goals as goal

pub returns-in_err-value : goal.returns-in_err-value
returns-in_err-value c =
    c.from_residual.ensures
    ∙ sym (read_bad c.args.word.now c.loop-c.c-index c.loop-c.value (omega arith) c.loop-c.invariant (sym c.in_err-value.ensures))

pub loop-c-preserved : goal.loop-c-preserved
loop-c-preserved c =
    read_more c.args.word.now c.loop-c.c-index c.loop-c.value c.in_ok-value.value (omega arith) c.loop-c.invariant
    (sym c.in_ok-value.ensures)

pub returns : goal.returns
returns c = sym (read_all c.args.word.now c.loop-c.c-index c.loop-c.value c.if-is_empty.ensures (omega arith) c.loop-c.invariant)
