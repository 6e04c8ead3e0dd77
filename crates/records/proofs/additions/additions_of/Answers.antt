use Rattle.records.proofs.Joined.{joined_more, joined_all_lem}
use Rattle.records.proofs.additions.additions_of.Goals as goal

pub loop-condition-preserved : goal.loop-condition-preserved
loop-condition-preserved c =
    joined_more _ _ _ _ _ _ _ _ c.as_slice-condition-items.ensures c.loop-condition-test.true c.claim_of.ensures c.with-claims.ensures c.loop-condition.invariant

pub returns : goal.returns
returns c = joined_all_lem _ _ _ _ _ c.as_slice-condition-items.ensures c.loop-condition-test.false c.loop-condition.invariant
