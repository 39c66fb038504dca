use Rattle.std.proofs.Common.{subst}
use Rattle.vx_keeper.specs.Busy.{AreBusyOf}
use Rattle.vx_world.proofs.Since.{still_busy}
use Rattle.vx_world.proofs.world.World.ready_some.Goals as goal

-- the sectors that the keeper knows it still knows once it has seen more edits
pub returns-clause-known : goal.returns-clause-known
returns-clause-known g c =
    still_busy c.args.keeper.now c.ready_for_busy.new.self c.args.taken.now.sectors.items c.ready_for_busy.ensures.kept
    (subst (λ sectors. AreBusyOf c.args.keeper.now sectors) c.deref.ensures.value (c.knows_each.ensures c.if-not-knows_each.false))
