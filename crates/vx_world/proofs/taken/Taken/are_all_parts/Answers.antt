use Rattle.std.proofs.Common.{arith}
use Rattle.vx_world.proofs.Parts.{said_of_all}
use Rattle.vx_world.proofs.taken.Taken.are_all_parts.Goals as goal

pub returns-clause-parts : goal.returns-clause-parts
returns-clause-parts g c = λ world all.
    let old = c.args.self.now in
    rw (c.fill.ensures.items (λ y same. same))
    (said_of_all world _ _ (omega (arith, old.told, old.sectors.ok.0)) all)
