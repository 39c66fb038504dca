use Rattle.std.proofs.Common.{ℕ, ◌<◌, ◌≤◌, get_or}
use Rattle.vx_world.proofs.alone.are_numbers.Given as goal

-- so many are below the number that the next may not be under
abbrev pub invariant-loop-number : goal.invariant-loop-number
invariant-loop-number l =
    (l.number-index ≤ l.least)
    × (l.least ≤ l.count)
    × ((k d : ℕ) → k < l.number-index → get_or l.numbers k d < l.count)
