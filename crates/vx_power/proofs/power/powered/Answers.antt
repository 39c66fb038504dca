use Rattle.std.proofs.Common.{◌∙◌}
use Rattle.vx_cells.specs.Maps.{cell_on}
use Rattle.vx_power.proofs.Local.{power_by}
use Rattle.vx_power.proofs.Sources.{conductor_powered}
use Rattle.vx_power.proofs.power.powered.Goals as goal

pub returns-then-has_conductor-clause-exact : goal.returns-then-has_conductor-clause-exact
returns-then-has_conductor-clause-exact g c near =
    c.has_source.ensures
    ∙ conductor_powered (cell_on c.args.map.now) (g.L.Leveled.level c.args.levels.now) c.args.p c.if-has_conductor.ensures
    ∙ power_by (cell_on c.args.map.now) (g.L.Leveled.level c.args.levels.now) c.args.p near
