use Rattle.std.proofs.Common.{sym, ap, subst}
use Rattle.vx_keeper.specs.Keepers.{KeeperData}
use Rattle.vx_keeper.specs.Marks.{AreMarks}
use Rattle.vx_keeper.proofs.Giving.{mark_fits}
use Rattle.vx_keeper.proofs.keeper.Keeper.mark_for.Goals as goal

pub returns : goal.returns
returns g c =
    mark_fits c.self.inside.marks c.args.self.now.world c.args.sector.now c.number_of.result c.of.result
    (subst (AreMarks c.self.inside.marks) (ap (λ (k : KeeperData). k.world) c.self.view_is) c.self.invariant.1)
    c.of.ensures (sym c.number_of.ensures) c.requires
