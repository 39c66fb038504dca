use Rattle.std.proofs.Common.{◌≡◌, replicate}
use Rattle.vx_marks.proofs.marks.Marks.new.Given as goal

-- so many pages, each with nothing marked
abbrev pub invariant-loop : goal.invariant-loop
invariant-loop l = l.pages.items ≡ replicate l.counter (replicate 64 0)
