use Rattle.std.proofs.Common.{subst}
use Rattle.vx_still.proofs.Watching.{right_levels}
use Rattle.vx_tick.specs.Starting.{IsStart}
use Rattle.vx_tick.proofs.planning.started.Goals as goal

pub by_levels-requires-clause-levels : goal.by_levels-requires-clause-levels
by_levels-requires-clause-levels c =
    right_levels c.args.map.now c.in-Awake.dust.levels (subst (IsStart c.args.map.now) c.in-Awake.is c.requires).0.right
