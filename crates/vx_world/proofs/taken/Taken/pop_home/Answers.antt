use Rattle.vx_world.proofs.Parts.{last_is}
use Rattle.vx_world.proofs.taken.Taken.pop_home.Goals as goal

pub marked-requires : goal.marked-requires
marked-requires g c =
    (last_is c.args.keeper.now.world _ _ _ _ (rw (c.in_ok-sector.ensures.last.0, c.in_ok-sector.ensures.last.1) at c.requires.parts)).1

pub returns-clause-parts : goal.returns-clause-parts
returns-clause-parts g c =
    (last_is c.args.keeper.now.world _ _ _ _ (rw (c.in_ok-sector.ensures.last.0, c.in_ok-sector.ensures.last.1) at c.requires.parts)).0
