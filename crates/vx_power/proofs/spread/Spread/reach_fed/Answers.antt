use Rattle.std.proofs.Common.{sym, ap, ◌∙◌, arith}
use Rattle.vx_cells.specs.Maps.{cell_on}
use Rattle.vx_geom.specs.Dirs.{all_dirs}
use Rattle.vx_power.specs.Powering.{powers}
use Rattle.vx_power.specs.Spreading.{fed_towards, fed_from}
use Rattle.vx_power.proofs.Powering.{nothing_fed}
use Rattle.vx_power.proofs.Reaching.{reaches_nothing, reaches_none, reaches_more, reaches_all, all_dirs_give}
use Rattle.vx_power.proofs.spread.Spread.reach_fed.Goals as goal

pub returns-then-not-powers : goal.returns-then-not-powers
returns-then-not-powers g c =
    reaches_nothing (nothing_fed (cell_on c.args.map.now) c.args.device
    (ap powers (sym c.cell-cell.ensures) ∙ sym c.if-not-powers.ensures))

pub loop-dir-init : goal.loop-dir-init
loop-dir-init g c = reaches_none

pub loop-dir-preserved : goal.loop-dir-preserved
loop-dir-preserved g c =
    reaches_more (fed_towards (cell_on c.args.map.now) c.args.device) all_dirs c.loop-dir.dir-index _
    c.loop-dir-test.true (omega arith) c.loop-dir.invariant c.in_ok-reach_towards.ensures

pub returns : goal.returns
unfolding fed_from
returns g c =
    reaches_all (fed_towards (cell_on c.args.map.now) c.args.device) all_dirs c.loop-dir.dir-index _
    c.loop-dir-test.false (all_dirs_give (fed_towards (cell_on c.args.map.now) c.args.device))
    c.loop-dir.invariant
