use Rattle.std.proofs.Common.{ap, sym, ◌∙◌}
use Rattle.vx_cells.specs.Maps.{cell_on}
use Rattle.vx_part.specs.Parts.{next_of}
use Rattle.vx_part.proofs.Changing.{no_change}
use Rattle.vx_tick.proofs.seen.change.Goals as goal

-- no part becomes of a piston
pub returns-in-Piston : goal.returns-in-Piston
unfolding next_of
returns-in-Piston g c =
    let w = cell_on c.args.map.now in
    let level = g.L.Leveled.level c.args.levels.now in
    let is = sym c.requires ∙ c.in-Piston.is in
    sym (no_change w level c.args.p (ap (next_of w level c.args.p) is ∙ sym is))
