use Rattle.script.proofs.Decimal.{Read}
use Rattle.script.proofs.numbers.read_number.Given as goal

abbrev pub invariant-loop-c : goal.invariant-loop-c
invariant-loop-c l = Read l.word l.c-index l.value
