use Rattle.vx_cells.specs.Maps.{cell_on}
use Rattle.vx_power.specs.Dust.{links}
use Rattle.vx_power.proofs.Reaching.{reaches_none, reaches_more, reaches_all, dust_gives}
use Rattle.vx_power.proofs.spread.Spread.reach_all_links.Goals as goal

pub loop-p-init : goal.loop-p-init
loop-p-init g c = reaches_none

pub loop-p-preserved : goal.loop-p-preserved
loop-p-preserved g c =
    reaches_more (links (cell_on c.args.map.now)) c.args.from.now c.loop-p.p-index _ c.loop-p-test.true
    c.requires.some c.loop-p.invariant c.in_ok-reach_links.ensures

pub returns : goal.returns
returns g c =
    reaches_all (links (cell_on c.args.map.now)) c.args.from.now c.loop-p.p-index _ c.loop-p-test.false
    (dust_gives (cell_on c.args.map.now) c.args.from.now) c.loop-p.invariant
