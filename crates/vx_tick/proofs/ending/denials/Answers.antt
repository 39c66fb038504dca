use Rattle.std.proofs.Common.{◌∙◌}
use Rattle.vx_cause.specs.Judging.{denial}
use Rattle.vx_tick.proofs.Turning.{mapped_more}
use Rattle.vx_tick.proofs.ending.denials.Goals as goal

pub loop-m-preserved : goal.loop-m-preserved
loop-m-preserved g c =
    mapped_more (denial (g.D.Decide.policy c.args.policy.now)) c.args.moves.now c.loop-m.m-index c.m-item.result c.loop-m.denials.items
    c.push.new.self.items c.err.result
    c.in_ok-push.ensures.items (c.err.ensures.value ∙ c.judge.ensures) c.loop-m-test.true c.m-item.is c.loop-m.invariant
