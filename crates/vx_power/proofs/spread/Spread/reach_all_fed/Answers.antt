use Rattle.std.proofs.Common.{arith}
use Rattle.vx_cells.specs.Maps.{cell_on}
use Rattle.vx_power.specs.Spreading.{fed_from}
use Rattle.vx_power.proofs.Reaching.{reaches_none, reaches_more, reaches_all, devices_give}
use Rattle.vx_power.proofs.spread.Spread.reach_all_fed.Goals as goal

pub loop-device-init : goal.loop-device-init
loop-device-init g c = reaches_none

pub loop-device-preserved : goal.loop-device-preserved
loop-device-preserved g c =
    reaches_more (fed_from (cell_on c.args.map.now)) c.args.devices.now c.loop-device.device-index _
    c.loop-device-test.true (omega arith) c.loop-device.invariant c.in_ok-reach_fed.ensures

pub returns : goal.returns
returns g c =
    reaches_all (fed_from (cell_on c.args.map.now)) c.args.devices.now c.loop-device.device-index _
    c.loop-device-test.false (devices_give (cell_on c.args.map.now) c.args.devices.now)
    c.loop-device.invariant
