use Rattle.std.proofs.Common.{◌≡◌, drop}
use Rattle.vx_cells.specs.Maps.{AreSectors}
use Rattle.vx_cells.specs.Wholes.{with_cells_on}
use Rattle.vx_cells.proofs.puts.set_all.Given as goal

-- what is left to be put down leads to the same map, with each sector in its place
abbrev pub invariant-loop-p : goal.invariant-loop-p
invariant-loop-p l =
    (with_cells_on (record { sizes = l.bounds; sectors = l.sectors }) (drop l.p-index l.cells)
    ≡ with_cells_on (record { sizes = l.bounds; sectors = l.fn.sectors }) l.cells)
    × AreSectors l.bounds l.sectors
