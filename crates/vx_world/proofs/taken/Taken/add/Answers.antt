use Rattle.vx_world.proofs.Parts.{one_more}
use Rattle.vx_world.proofs.taken.Taken.add.Goals as goal

pub returns-clause-parts : goal.returns-clause-parts
returns-clause-parts g c =
    rw (c.push.ensures.sectors, c.push.ensures.are_parts) (one_more c.args.keeper.now.world _ _ _ _ c.requires.parts
    (λ said. rw (c.into_sector.ensures, c.into_parts-marked.ensures.marked) (c.catch_up-is_part.ensures.part said)))
