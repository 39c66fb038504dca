use Rattle.std.proofs.Common.{◌-◌, ◌≤◌}
use Rattle.vx_marks.specs.Marks.{AreUnmarked}
use Rattle.vx_marks.specs.Pages.{joined}
use Rattle.vx_marks.proofs.marks.Marks.first_from.Given as goal

-- no index so far is marked
abbrev pub invariant-loop-next : goal.invariant-loop-next
invariant-loop-next l = (l.from ≤ l.next) × AreUnmarked (joined (λ page. page) l.self-inside.pages.items) l.from l.next

abbrev pub decreases-loop-next : goal.decreases-loop-next
decreases-loop-next l = l.end - l.next
