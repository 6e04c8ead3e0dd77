use Rattle.std.proofs.Common.{◌≡◌, ◌+◌, sym, ◌∙◌, ap, arith, rules}
use Rattle.claims.specs.declared.kinds.Claim.{Claim}
use Rattle.parts.specs.Parts.{piece}
use Rattle.parts.specs.declared.kinds.Pick.{Pick}
use Rattle.spdm.proofs.Walks.{noted, noted_now, noted_past, rest_begins, rest_few, rest_goes, rest_stops, rest_ends}
use Rattle.spdm.proofs.reader.walk.Goals as goal
use Rattle.spdm.proofs.reader.walk.Goals.{then-pick-wanted, else-pick-wanted}

pub loop-rest-init : goal.loop-rest-init
loop-rest-init c = rw c.whole-rest.ensures (rest_begins c.args.setup.now c.args.message.now c.args.wanted)

pub returns-in_err-entry : goal.returns-in_err-entry
returns-in_err-entry c =
    let stopped =
    rest_stops c.args.setup.now c.args.message.now c.args.wanted c.loop-rest.last c.loop-rest.pick (piece c.loop-rest.rest) c.loop-rest.invariant (sym c.is_empty.ensures ∙ c.loop-rest-test.true)
    c.in_err-entry.field-0.0 c.in_err-entry.ensures.value in
    search rules

pub overflow_add-pick : goal.overflow_add-pick
overflow_add-pick c =
    let few =
    rest_few c.args.setup.now c.args.message.now c.args.wanted c.loop-rest.last c.loop-rest.pick (piece c.loop-rest.rest) c.loop-rest.invariant (sym c.is_empty.ensures ∙ c.loop-rest-test.true) in
    let same : c.if-pick-wanted.pick.seen ≡ c.loop-rest.pick.seen =
    elim c.if-pick-wanted.branch [ then-pick-wanted w ↦ ap (λ (q : Pick Claim). q.seen) w.pick-is | else-pick-wanted w ↦ ap (λ (q : Pick Claim). q.seen) w.pick-is ] in
    omega arith

pub loop-rest-preserved : goal.loop-rest-preserved
loop-rest-preserved c =
    let note : record { seen = c.if-pick-wanted.pick.seen + 1; kept = c.if-pick-wanted.pick.kept } ≡ noted c.args.wanted c.loop-rest.pick c.in_ok-entry.entry.claim =
    elim c.if-pick-wanted.branch [
      | then-pick-wanted w ↦ noted_now c.args.wanted c.loop-rest.pick c.if-pick-wanted.pick c.in_ok-entry.entry.claim w.if-pick-wanted.true w.pick-is
      | else-pick-wanted w ↦ noted_past c.args.wanted c.loop-rest.pick c.if-pick-wanted.pick c.in_ok-entry.entry.claim w.if-pick-wanted.false w.pick-is
    ] in
    rw c.after-rest.ensures.value
    (rest_goes c.args.setup.now c.args.message.now c.args.wanted c.loop-rest.last c.loop-rest.pick (piece c.loop-rest.rest) c.loop-rest.invariant (sym c.is_empty.ensures ∙ c.loop-rest-test.true)
    c.in_ok-entry.entry _ note c.in_ok-entry.ensures.value c.in_ok-entry.ensures.within.0 c.in_ok-entry.ensures.within.1)

pub returns : goal.returns
returns c =
    rest_ends c.args.setup.now c.args.message.now c.args.wanted c.loop-rest.last c.loop-rest.pick (piece c.loop-rest.rest) c.loop-rest.invariant (sym c.is_empty.ensures ∙ c.loop-rest-test.false)
