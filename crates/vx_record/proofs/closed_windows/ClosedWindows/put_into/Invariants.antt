use Rattle.std.proofs.Common.{◌≡◌, length, map, take}
use Rattle.vx_sector.specs.SectorData.{entry_of}
use Rattle.vx_record.specs.Kept.{windows_kept}
use Rattle.vx_record.proofs.closed_windows.ClosedWindows.put_into.Given as goal

-- those that are kept so far stand in their places, and all others are empty
abbrev pub invariant-loop-window : goal.invariant-loop-window
invariant-loop-window l =
    map (λ place. map entry_of place.now) l.places
    ≡ windows_kept (length l.places) (take l.window-index l.window-items)
