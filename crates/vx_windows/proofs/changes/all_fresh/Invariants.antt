use Rattle.std.proofs.Common.{◌≡◌, map, take}
use Rattle.vx_windows.specs.Sectors.{AreQuiet, cells_of, nexts, window_over, with_changes}
use Rattle.vx_windows.proofs.changes.all_fresh.Given as goal

-- the sectors so far begin with windows over these cells
abbrev pub invariant-loop-at : goal.invariant-loop-at
invariant-loop-at l =
    (nexts l.version.tick l.sectors l.all.items
    ≡ take l.at (map (window_over l.version) (with_changes (map cells_of l.sectors) l.changes)))
    × AreQuiet (take l.at l.sectors) l.all.items
