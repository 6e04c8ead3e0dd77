use Rattle.std.proofs.Common.{◌≡◌, ◌+◌, ◌-◌, arith, rules}
use Rattle.parts.specs.Parts.{piece}
use Rattle.cbor.proofs.Counts.{counting_more, counting_stops}
use Rattle.cbor.proofs.holders.read_counted.Goals as goal

pub returns-in_err-element-clause-value : goal.returns-in_err-element-clause-value
returns-in_err-element-clause-value g c =
    let stopped
    = counting_stops g.E.Elements.element c.args.head c.args.start (piece c.args.part) (c.args.head.value - c.loop.counter) c.loop.found (omega arith) c.loop.invariant c.in_err-element.field-0.0
    (rw c.after.ensures.value at c.in_err-element.ensures.value) in
    search rules

pub loop-preserved : goal.loop-preserved
loop-preserved g c =
    let one : c.args.head.value - (c.loop.counter + 1) ≡ c.args.head.value - c.loop.counter - 1 = omega arith in
    rw one
    (counting_more g.E.Elements.element c.args.head c.args.start (piece c.args.part) (c.args.head.value - c.loop.counter) c.loop.found (omega arith) c.loop.invariant c.in_ok-element.element
    c.behind-found.result (rw c.after.ensures.value at c.in_ok-element.ensures.value) (omega (arith, c.in_ok-element.ensures.within.1, c.after.ensures.len)) c.behind-found.ensures.value c.behind-found.ensures.size)
