use Rattle.std.proofs.Common.{arith}
use Rattle.vx_geom.specs.Dirs.{all_dirs}
use Rattle.vx_cells.specs.Maps.{cell_on}
use Rattle.vx_power.specs.Spreading.{dust_at}
use Rattle.vx_power.proofs.Reaching.{reaches_none, reaches_more, reaches_as}
use Rattle.vx_power.proofs.spread.Spread.reach_around.Goals as goal

pub loop-dir-init : goal.loop-dir-init
loop-dir-init g c = reaches_none

pub loop-dir-preserved : goal.loop-dir-preserved
loop-dir-preserved g c =
    reaches_more (dust_at (cell_on c.args.map.now) c.args.p) all_dirs c.loop-dir.dir-index _
    c.loop-dir-test.true (omega arith) c.loop-dir.invariant
    (reaches_as c.dust_at.ensures.found c.in_ok-reach_found.ensures)
