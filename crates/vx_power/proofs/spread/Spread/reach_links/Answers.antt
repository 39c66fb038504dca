use Rattle.std.proofs.Common.{◌≡◌, false}
use Rattle.vx_block.specs.Components.{is_dust}
use Rattle.vx_cells.specs.Maps.{cell_on}
use Rattle.vx_power.proofs.Reaching.{reaches_nothing, no_links}
use Rattle.vx_power.proofs.spread.Spread.reach_links.Goals as goal

pub returns-then-not-has_dust : goal.returns-then-not-has_dust
returns-then-not-has_dust g c =
    let none : is_dust (cell_on c.args.map.now c.args.p) ≡ false = cc in
    reaches_nothing (no_links (cell_on c.args.map.now) c.args.p none)
