use Rattle.std.proofs.Common.{◌≡◌, ℕ, ◌+◌, ◌*◌, ◌^◌, ◌≤◌, sym, ap, ◌∙◌, mul-add, arith, pow_mono, pow-add}
use Rattle.std.proofs.lemmas.List.{at_drop_all, at_drop_more}
use Rattle.parts.specs.Numbers.{big_after}
use Rattle.parts.proofs.numbers.big_endian.Goals as goal

eight_more : (i : ℕ) → 2 ^ (8 * (i + 1)) ≡ 2 ^ (8 * i) * 256
eight_more i = ap (λ e. 2 ^ e) (mul-add 8 i 1) ∙ pow-add 2 (8 * i) 8

pub overflow_mul-n : goal.overflow_mul-n
overflow_mul-n c = let k : 8 * c.loop-b.b-index ≤ 56 = omega arith in omega (arith, pow_mono k)

pub loop-b-preserved : goal.loop-b-preserved
loop-b-preserved c = (
  c.loop-b.invariant.0 ∙ at_drop_more (big_after c.loop-b.n) c.args.bytes.now c.loop-b.b-index 0 (omega arith),
  omega (arith, eight_more c.loop-b.b-index, c.loop-b.invariant.1),
)

pub returns : goal.returns
returns c = sym (c.loop-b.invariant.0 ∙ at_drop_all (big_after c.loop-b.n) c.args.bytes.now c.loop-b.b-index (omega arith))
