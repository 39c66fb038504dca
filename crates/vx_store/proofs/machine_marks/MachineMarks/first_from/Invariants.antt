use Rattle.std.proofs.Common.{◌-◌, ◌≤◌}
use Rattle.vx_marks.specs.Marks.{AreUnmarked}
use Rattle.vx_store.specs.MachineMarks.{words_of, joined}
use Rattle.vx_store.proofs.machine_marks.MachineMarks.first_from.Given as goal

-- no index so far is marked
abbrev pub invariant-loop-next : goal.invariant-loop-next
invariant-loop-next l = (l.from ≤ l.next) × AreUnmarked (words_of l.kind (joined l.self-inside.pages.items)) l.from l.next

abbrev pub decreases-loop-next : goal.decreases-loop-next
decreases-loop-next l = l.end - l.next
