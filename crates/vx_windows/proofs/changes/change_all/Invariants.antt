use Rattle.std.proofs.Common.{◌≡◌, length, take}
use Rattle.vx_windows.specs.Sectors.{with_changes}
use Rattle.vx_windows.proofs.changes.change_all.Given as goal

-- what changed so far stands in its place
abbrev pub invariant-loop-at : goal.invariant-loop-at
invariant-loop-at l = l.cells ≡ with_changes l.fn.cells (take (length l.yielded) l.fn.changes.items)
