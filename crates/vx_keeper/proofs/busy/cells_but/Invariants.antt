use Rattle.std.proofs.Common.{◌≡◌, drop, map}
use Rattle.vx_windows.specs.Sectors.{cells_of}
use Rattle.vx_keeper.specs.Busy.{with_each}
use Rattle.vx_keeper.proofs.busy.cells_but.Given as goal

-- with those that are left they are what they will be
abbrev pub invariant-loop-sector : goal.invariant-loop-sector
invariant-loop-sector l =
    with_each cells_of (map (λ c. c.now) l.cells.items) (drop l.sector-index l.busy)
    ≡ with_each cells_of l.known.map.sectors l.busy
