use Rattle.std.proofs.Common.{map, length}
use Rattle.vx_sector.specs.SectorData.{entry_of}
use Rattle.vx_audit.proofs.Counted.{IsTakenBy}
use Rattle.vx_audit.proofs.fronts.rest_after.Given as goal

-- what was taken is the front of the window
abbrev pub invariant-loop-next : goal.invariant-loop-next
invariant-loop-next l = IsTakenBy l.fn.due (map entry_of l.fn.left) l.due (map entry_of l.rest)

abbrev pub decreases-loop-next : goal.decreases-loop-next
decreases-loop-next l = length (map entry_of l.rest)
