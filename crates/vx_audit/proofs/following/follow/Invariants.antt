use Rattle.std.proofs.Common.{◌≡◌, List, length}
use Rattle.vx_audit.specs.Audits.{record_in}
use Rattle.vx_audit.specs.Walks.{TraceData, FollowsAll, all_marks, start_of}
use Rattle.vx_audit.proofs.following.follow.Given as goal

-- the marks so far lead from the beginning of the record to here
abbrev pub invariant-loop-walk : goal.invariant-loop-walk
invariant-loop-walk l =
    (traces : List TraceData) × FollowsAll (start_of (record_in l.chronicle l.windows l.version)) traces l.walk × (l.fn.marks ≡ all_marks traces l.left)

abbrev pub decreases-loop-walk : goal.decreases-loop-walk
decreases-loop-walk l = length l.left
