use Rattle.std.proofs.Common.{refl, arith, rules}
use Rattle.manifests.proofs.Passed.{pass_begins, pass_nears, pass_goes, pass_stops, pass_ends}
use Rattle.manifests.proofs.reader.pick_triple.Goals as goal

pub loop-triple-init : goal.loop-triple-init
loop-triple-init c =
    pass_begins c.args.signer c.args.message.now c.args.wanted c.in_ok-walk.walk c.in_ok-walk.ensures.value c.in_ok-walk.ensures.within c.in_ok-walk.ensures.message

pub returns-in_err-triple : goal.returns-in_err-triple
returns-in_err-triple c =
    let stopped = pass_stops c.args.signer c.args.message.now c.args.wanted _ _ c.loop-triple.invariant _ _ refl c.in_err-triple.ensures.value in
    search rules

pub loop-triple-smaller : goal.loop-triple-smaller
loop-triple-smaller c =
    pass_nears c.args.signer c.args.message.now c.args.wanted _ _ c.loop-triple.invariant c.in_ok-triple.field-0 c.in-Some.triple c.in-Some.is c.next.new.self c.in_ok-triple.ensures.within

pub loop-triple-preserved : goal.loop-triple-preserved
loop-triple-preserved c =
    pass_goes c.args.signer c.args.message.now c.args.wanted _ _ c.loop-triple.invariant c.in_ok-triple.field-0 c.in-Some.triple c.in-Some.is c.next.new.self c.in_ok-triple.ensures.within c.next.ensures.message (omega arith) _ c.note-pick.ensures
    _ refl c.in_ok-triple.ensures.value c.next.ensures.cursor

pub returns : goal.returns
returns c = pass_ends c.args.signer c.args.message.now c.args.wanted _ _ c.loop-triple.invariant _ _ c.in_default.is refl c.in_ok-triple.ensures.value
