use Rattle.std.proofs.Common.{◌-◌, ◌≤◌}
use Rattle.vx_cells.specs.Maps.{cell_on}
use Rattle.vx_power.specs.Spreading.{fed_by_sectors, Reaches}
use Rattle.vx_power.proofs.spread.Spread.begin.Given as goal

-- what the devices of the sectors so far feed is reached
abbrev pub invariant-loop-number : goal.invariant-loop-number
invariant-loop-number g l = record {
  from : l.fn.first ≤ l.number;
  reaches : Reaches (g.R.Region.holds l.region) 15 l.initial.self l.self
      (fed_by_sectors l.map (cell_on l.map) l.fn.first (l.number - l.fn.first));
}
