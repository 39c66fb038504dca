use Rattle.std.proofs.Common.{take}
use Rattle.std.specs.List.{flat_map}
use Rattle.vx_cells.specs.Maps.{cell_on}
use Rattle.vx_power.specs.Dust.{links_on}
use Rattle.vx_power.specs.Spreading.{Reaches}
use Rattle.vx_power.proofs.spread.Spread.reach_any_links.Given as goal

-- what is linked to on the sides so far is reached
abbrev pub invariant-loop-side : goal.invariant-loop-side
invariant-loop-side g l =
    Reaches (g.R.Region.holds l.region) l.fn.level l.initial.self l.self
    (flat_map (links_on (cell_on l.map) l.fn.p) (take l.side-index l.side-items))
