use Rattle.std.proofs.Common.{ap, ◌∙◌}
use Rattle.vx_cells.specs.Maps.{cell_on}
use Rattle.vx_part.specs.Parts.{next_of}
use Rattle.vx_part.proofs.Reading.{part_by}
use Rattle.vx_part.proofs.parts.next_part.Goals as goal

pub returns-clause-exact : goal.returns-clause-exact
returns-clause-exact g c near =
    c.next_of.ensures
    ∙ ap (next_of (cell_on c.args.map.now) (g.L.Leveled.level c.args.levels.now) c.args.p) c.cell.ensures
    ∙ part_by (cell_on c.args.map.now) (g.L.Leveled.level c.args.levels.now) c.args.p near
