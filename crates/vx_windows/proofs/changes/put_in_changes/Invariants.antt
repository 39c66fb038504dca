use Rattle.std.proofs.Common.{◌≡◌, List, length, map}
use Rattle.vx_cells.specs.Maps.{AreSectors}
use Rattle.vx_cells.specs.Wholes.{with_cells_on}
use Rattle.vx_sector.specs.SectorData.{SectorData}
use Rattle.vx_windows.specs.Sectors.{AreQuiet, map_with_changes, with_changes}
use Rattle.vx_windows.proofs.changes.put_in_changes.Given as goal

-- what is left to be put down leads to the same map, with each sector in its place, and there is
-- nothing only where there was nothing before
abbrev pub invariant-loop-left : goal.invariant-loop-left
invariant-loop-left l =
    (with_cells_on (map_with_changes l.bounds (map (λ c. c.now) l.cells) l.changes) l.left
    ≡ with_cells_on (map_with_changes l.bounds (map (λ c. c.now) l.cells) l.fn.changes) l.puts)
    × AreSectors l.bounds (with_changes (map (λ c. c.now) l.cells) l.changes)
    × ((ss : List SectorData) → AreQuiet ss l.fn.changes → AreQuiet ss l.changes)

abbrev pub decreases-loop-left : goal.decreases-loop-left
decreases-loop-left l = length l.left
