use Rattle.std.proofs.Common.{◌≡◌, length, take}
use Rattle.vx_record.specs.Archives.{next_counts}
use Rattle.vx_record.specs.Kept.{windows_kept}
use Rattle.vx_record.proofs.closed_windows.ClosedWindows.count_into.Given as goal

-- the entries of those that are kept so far are counted
abbrev pub invariant-loop-window : goal.invariant-loop-window
invariant-loop-window l =
    l.counts ≡ next_counts l.fn.counts (windows_kept (length l.fn.counts) (take l.window-index l.window-items))
