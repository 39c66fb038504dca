use Rattle.std.proofs.Common.{◌≡◌, map, take}
use Rattle.vx_sector.specs.SectorData.{entry_of}
use Rattle.vx_windows.specs.Sectors.{entries_in}
use Rattle.vx_audit.proofs.windows.put_open.Given as goal

-- the windows so far stand in their places
abbrev pub invariant-loop-at : goal.invariant-loop-at
invariant-loop-at l =
    take l.at (map (λ place. map entry_of place.now) l.places) ≡ take l.at (map entries_in l.windows)
