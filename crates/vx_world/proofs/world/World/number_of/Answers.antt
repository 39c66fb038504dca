use Rattle.vx_world.proofs.Numbers.{below_all}
use Rattle.vx_world.proofs.world.World.number_of.Goals as goal

pub returns-clause-below : goal.returns-clause-below
returns-clause-below g c =
    let world = c.args.self.now in
    below_all world.bounds c.args.p _ c.sector_of.result c.soundness.ensures c.sector_of.ensures world.divided
