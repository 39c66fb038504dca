use Rattle.std.proofs.Common.{length}
use Rattle.vx_audit.proofs.Counted.{IsBegun}
use Rattle.vx_audit.proofs.counts.count_block.Given as goal

-- the marks so far are calls, and counted
abbrev pub invariant-loop-mark : goal.invariant-loop-mark
invariant-loop-mark l = IsBegun l.fn.marks l.counts l.left

abbrev pub decreases-loop-mark : goal.decreases-loop-mark
decreases-loop-mark l = length l.left
