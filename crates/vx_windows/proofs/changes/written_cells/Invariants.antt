use Rattle.std.proofs.Common.{◌≡◌, map, take}
use Rattle.vx_windows.specs.Sectors.{AreQuiet, cells_of, with_changes}
use Rattle.vx_windows.proofs.changes.written_cells.Given as goal

-- the sectors so far have their own cells, given or not
abbrev pub invariant-loop-sector : goal.invariant-loop-sector
invariant-loop-sector l =
    (with_changes (map cells_of l.sectors) l.changes.items ≡ map cells_of l.sectors)
    × AreQuiet (take l.sector-index l.sectors) l.changes.items
