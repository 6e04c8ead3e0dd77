use Rattle.std.proofs.Common.{arith}
use Rattle.lists.proofs.Storing.{stood, full, put}
use Rattle.lists.proofs.once.store_once.Goals as goal

pub returns-in-Some : goal.returns-in-Some
returns-in-Some g c =
    let w = stood g.E.Same.same c.args.x c.args.places.now c.args.count c.min-held.result c.in-Some.place
    c.min-held.ensures c.in-Some.ensures.value in
    record { answer = w.0; places = w.1; once = w.2 }

pub returns-then-held-places : goal.returns-then-held-places
returns-then-held-places g c =
    let w = full g.E.Same.same c.args.x c.args.places.now c.args.count c.min-held.result
    c.min-held.ensures c.if-held-places.true c.in_default.ensures.value in
    record { answer = w.0; places = w.1; once = w.2 }

pub returns : goal.returns
returns g c =
    let w = put g.E.Same.same c.args.x c.args.places.now c.args.count c.min-held.result
    c.min-held.ensures (omega arith) g.met.E.Same.reflexive g.met.E.Same.symmetric c.in_default.ensures.value in
    record { answer = w.0; places = w.1; once = w.2 }
