use Rattle.std.proofs.Common.{take}
use Rattle.std.specs.List.{flat_map}
use Rattle.vx_cells.specs.Maps.{cell_on}
use Rattle.vx_power.specs.Spreading.{fed_from, Reaches}
use Rattle.vx_power.proofs.spread.Spread.reach_all_fed.Given as goal

-- what the devices so far feed is reached
abbrev pub invariant-loop-device : goal.invariant-loop-device
invariant-loop-device g l =
    Reaches (g.R.Region.holds l.region) 15 l.initial.self l.self
    (flat_map (fed_from (cell_on l.map)) (take l.device-index l.devices))
