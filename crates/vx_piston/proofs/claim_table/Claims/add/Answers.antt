use Rattle.vx_piston.proofs.Wanted.{claimed_more}
use Rattle.vx_piston.proofs.claim_table.Claims.add.Goals as goal

pub loop-p-preserved : goal.loop-p-preserved
loop-p-preserved c =
    claimed_more c.as_slice-p-items.result.now c.loop-p.p-index c.m.inside.at _ c.args.self.now c.loop-p.self
    c.claim.new.self c.loop-p-test.true c.loop-p.invariant c.in_ok-claim.ensures
