use Rattle.std.proofs.Common.{take}
use Rattle.std.specs.List.{flat_map}
use Rattle.vx_cells.specs.Maps.{cell_on}
use Rattle.vx_power.specs.Spreading.{fed_towards, Reaches}
use Rattle.vx_power.proofs.spread.Spread.reach_fed.Given as goal

-- what the device feeds in the directions so far is reached
abbrev pub invariant-loop-dir : goal.invariant-loop-dir
invariant-loop-dir g l =
    Reaches (g.R.Region.holds l.region) 15 l.initial.self l.self
    (flat_map (fed_towards (cell_on l.map) l.fn.device) (take l.dir-index l.dir-items))
