use Rattle.std.proofs.Common.{◌+◌, ◌≤◌, length}
use Rattle.vx_region.proofs.searching.last_that.Given as goal

-- what is left to look at lies within the list
abbrev pub invariant-loop-size : goal.invariant-loop-size
invariant-loop-size _ l = l.last + l.size ≤ length l.items

abbrev pub decreases-loop-size : goal.decreases-loop-size
decreases-loop-size _ l = l.size
