use Rattle.std.proofs.Common.{subst}
use Rattle.vx_tick.specs.Fates.{AreFates}
use Rattle.vx_step.proofs.planning_parts.by_levels.Goals as goal

pub finished-requires-clause-fates : goal.finished-requires-clause-fates
finished-requires-clause-fates g c =
    subst (λ ms. AreFates c.args.version.now.policy ms ms c.in_ok-fates.fates.items) c.as_slice-moves.ensures.value
    c.in_ok-fates.ensures
