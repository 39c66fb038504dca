use Rattle.std.proofs.Common.{◌≡◌, replicate}
use Rattle.vx_store.specs.MachineMarks.{blank_page}
use Rattle.vx_store.proofs.machine_marks.MachineMarks.new.Given as goal

-- so many pages, each with nothing marked
abbrev pub invariant-loop : goal.invariant-loop
invariant-loop l = l.pages.items ≡ replicate l.counter blank_page
