use Rattle.std.proofs.Common.{◌≡◌, ◌*◌, ◌^◌, ◌<◌, drop}
use Rattle.parts.specs.Numbers.{big, big_after}
use Rattle.parts.proofs.numbers.big_endian.Given as goal

abbrev pub invariant-loop-b : goal.invariant-loop-b
invariant-loop-b l = (big l.bytes ≡ big_after l.n (drop l.b-index l.bytes)) × (l.n < 2 ^ (8 * l.b-index))
