use Rattle.std.proofs.Common.{◌&&◌, [], if◌then◌else◌, ap}
use Rattle.std.proofs.lemmas.Bool.{false_from_ne_true}
use Rattle.vx_block.specs.Conductors.{conducts}
use Rattle.vx_cells.specs.Maps.{cell_on}
use Rattle.vx_geom.specs.Neighbor.{neighbor}
use Rattle.vx_power.specs.Signals.{drives}
use Rattle.vx_power.specs.Spreading.{dust_at, each_dir}
use Rattle.vx_power.proofs.Reaching.{reaches_nothing}
use Rattle.vx_power.proofs.spread.Spread.reach_driven.Goals as goal

pub returns-in-None : goal.returns-in-None
returns-in-None g c =
    let at = neighbor c.args.p c.args.dir in
    let none = false_from_ne_true
    (drives c.args.cell.now c.args.dir && conducts (cell_on c.args.map.now at)) c.in-None.ensures in
    reaches_nothing (ap (λ b. if b then each_dir (dust_at (cell_on c.args.map.now) at) else []) none)
