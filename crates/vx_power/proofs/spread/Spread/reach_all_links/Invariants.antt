use Rattle.std.proofs.Common.{take}
use Rattle.std.specs.List.{flat_map}
use Rattle.vx_cells.specs.Maps.{cell_on}
use Rattle.vx_power.specs.Dust.{links}
use Rattle.vx_power.specs.Spreading.{Reaches}
use Rattle.vx_power.proofs.spread.Spread.reach_all_links.Given as goal

-- what the positions so far link to is reached
abbrev pub invariant-loop-p : goal.invariant-loop-p
invariant-loop-p g l =
    Reaches (g.R.Region.holds l.region) l.fn.level l.initial.self l.self
    (flat_map (links (cell_on l.map)) (take l.p-index l.from))
