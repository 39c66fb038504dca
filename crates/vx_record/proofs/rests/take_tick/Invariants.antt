use Rattle.std.proofs.Common.{[], length, map, take, get_or}
use Rattle.vx_record.specs.Kept.{windows_kept}
use Rattle.vx_record.specs.Rests.{lists_in, AreAllBehind}
use Rattle.vx_record.proofs.rests.take_tick.Given as goal

-- the calls in the windows so far are taken
abbrev pub invariant-loop-window : goal.invariant-loop-window
invariant-loop-window l =
    AreAllBehind l.seats l.first (map lists_in l.fn.tables)
    (λ k. get_or (windows_kept (length l.tick.windows) (take l.window-index l.window-items)) k [])
    (map lists_in l.tables)
