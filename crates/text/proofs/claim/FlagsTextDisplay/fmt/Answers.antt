use Rattle.std.proofs.Common.{true, false, arith, rules}
use Rattle.std.proofs.Output.{has_written_append, has_written_of_eq}
use Rattle.text.specs.Claims.{flags_from}
use Rattle.text.proofs.Known.{flag_written, flag_left_out, flags_done}
use Rattle.text.proofs.claim.FlagsTextDisplay.fmt.Goals as goal
use Rattle.text.proofs.claim.FlagsTextDisplay.fmt.Goals.{in-Some+in_ok-write, in_default}

pub loop-number-preserved : goal.loop-number-preserved
loop-number-preserved g c =
    let fs = c.args.self.now.0.now in
    let all = flags_from false 0 fs in
    let i = c.loop-number.number-counter in
    let inv = c.loop-number.invariant in
    elim c.match-state.branch [
      | in-Some+in_ok-write w ↦ (
        search rules,
        (
          true,
          _,
          search rules,
          flag_written inv.1.1 all c.loop-number.lead.now fs i inv.1.0 w.in-Some.state (omega arith) w.in-Some.is inv.1.2 inv.1.3,
          λ plain. rw w.f-is (has_written_append _ _ _ _ _ _ (inv.1.4 plain) (search rules)),
        ),
      )
      | in_default w ↦ (search rules, (inv.1.0, inv.1.1, search rules, flag_left_out inv.1.1 all fs i inv.1.0 (omega arith) w.in_default.is inv.1.3, search rules))
    ]

pub returns-clause-writes : goal.returns-clause-writes
returns-clause-writes g c plain ok =
    let inv = c.loop-number.invariant in
    has_written_of_eq _ _ _ _ _ (flags_done inv.1.1 _ c.args.self.now.0.now c.loop-number.number-counter inv.1.0 (omega arith) inv.1.3) (inv.1.4 plain)
