use Rattle.vx_block.specs.Sides.{all_sides}
use Rattle.vx_cells.specs.Maps.{cell_on}
use Rattle.vx_power.specs.Dust.{links_on}
use Rattle.vx_power.proofs.Reaching.{reaches_none, reaches_more, reaches_all, all_sides_give}
use Rattle.vx_power.proofs.spread.Spread.reach_any_links.Goals as goal

pub loop-side-init : goal.loop-side-init
loop-side-init g c = reaches_none

pub loop-side-preserved : goal.loop-side-preserved
loop-side-preserved g c =
    reaches_more (links_on (cell_on c.args.map.now) c.args.p) all_sides c.loop-side.side-index _
    c.loop-side-test.true c.requires.some c.loop-side.invariant c.in_ok-reach_links_on.ensures

pub returns : goal.returns
returns g c =
    reaches_all (links_on (cell_on c.args.map.now) c.args.p) all_sides c.loop-side.side-index _
    c.loop-side-test.false (all_sides_give (cell_on c.args.map.now) c.args.p c.requires.dust) c.loop-side.invariant
