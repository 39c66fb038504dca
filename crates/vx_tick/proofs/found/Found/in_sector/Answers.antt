use Rattle.std.proofs.Common.{ap, ◌∙◌}
use Rattle.vx_cells.specs.Maps.{cell_on}
use Rattle.vx_geom.specs.Places.{positions}
use Rattle.vx_power.specs.Laws.{dust_level}
use Rattle.vx_tick.specs.Ticks.{asked}
use Rattle.vx_tick.proofs.Resting.{found_restless, restless_ask}
use Rattle.vx_tick.proofs.found.Found.in_sector.Goals as goal

pub returns-clause-moves : goal.returns-clause-moves
returns-clause-moves g c =
    let m = c.args.map.now in
    let level = dust_level (cell_on m) in
    let ps = positions m.sizes c.args.sector in
    let seen = c.as_slice.ensures.value ∙ c.in_ok-changes.ensures.restless in
    c.in_ok-moves.ensures level (found_restless m level ps _ seen)
    ∙ ap (asked m level) seen
    ∙ restless_ask m level ps
