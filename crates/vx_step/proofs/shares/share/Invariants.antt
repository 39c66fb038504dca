use Rattle.vx_step.specs.Shares.{first_of, AreFromTo}
use Rattle.vx_step.proofs.shares.share.Given as goal

-- what the sectors so far gave
abbrev pub invariant-loop-sector : goal.invariant-loop-sector
invariant-loop-sector g l =
    AreFromTo (g.W.Work.gives l.work) (first_of (g.W.Work.count l.work) l.fn.workers l.fn.worker)
    l.sector l.outs.items
