use Rattle.std.proofs.Common.{◌≡◌}
use Rattle.vx_tick.specs.Pieces.{restless_up_to}
use Rattle.vx_tick.specs.Ticks.{changed_up_to}
use Rattle.vx_tick.proofs.found.Found.on.Given as goal

-- what was seen in the sectors so far
abbrev pub invariant-loop-sector : goal.invariant-loop-sector
invariant-loop-sector g l = record {
  changes : l.seen.changes.items ≡ changed_up_to l.map l.sector;
  restless : l.seen.restless.items ≡ restless_up_to l.map l.sector;
}
