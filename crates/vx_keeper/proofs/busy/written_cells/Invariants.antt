use Rattle.std.proofs.Common.{◌≡◌, None, Some, drop, replicate}
use Rattle.vx_sector.specs.SectorData.{SectorData}
use Rattle.vx_keeper.specs.Busy.{with_each}
use Rattle.vx_keeper.proofs.busy.written_cells.Given as goal

-- with those that are left they are what they will be
abbrev pub invariant-loop-sector : goal.invariant-loop-sector
invariant-loop-sector l =
    with_each (λ (s : SectorData). Some s.cells) l.changes.items (drop l.sector-index l.busy)
    ≡ with_each (λ (s : SectorData). Some s.cells) (replicate l.count None) l.busy
