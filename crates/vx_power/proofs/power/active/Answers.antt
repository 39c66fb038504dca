use Rattle.std.proofs.Common.{◌∙◌}
use Rattle.vx_cells.specs.Maps.{cell_on}
use Rattle.vx_power.proofs.Local.{activity_by}
use Rattle.vx_power.proofs.power.active.Goals as goal

pub returns-clause-exact : goal.returns-clause-exact
returns-clause-exact g c near =
    c.is_activated.ensures
    ∙ activity_by (cell_on c.args.map.now) (g.L.Leveled.level c.args.levels.now) c.args.front c.args.p near
