use Rattle.std.proofs.Common.{sym, subst}
use Rattle.vx_sector.specs.SectorData.{seat_of}
use Rattle.vx_keeper.specs.Marks.{IsMarkOf}
use Rattle.vx_keeper.proofs.Marking.{mark_after}
use Rattle.vx_keeper.proofs.marked.Marked.carry_out.Goals as goal

pub invariant_of-self : goal.invariant_of-self
invariant_of-self g c =
    subst (IsMarkOf c.self.inside.mark) (sym c.carry_out.ensures.sector)
    (mark_after c.self.inside.mark c.self.inside.sector (seat_of c.args.seat.now) c.args.cmd.now c.carry_out.result c.self.invariant)
