use Rattle.std.proofs.Common.{◌≡◌}
use Rattle.vx_tick.specs.Pieces.{restless_up_to}
use Rattle.vx_tick.specs.Ticks.{changed_up_to}
use Rattle.vx_tick.proofs.found.Found.among.Given as goal

-- what was seen in the sectors so far
abbrev pub invariant-loop-number : goal.invariant-loop-number
invariant-loop-number g l = record {
  changes : l.seen.changes.items ≡ changed_up_to l.map l.number;
  restless : l.seen.restless.items ≡ restless_up_to l.map l.number;
}
