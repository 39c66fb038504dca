use Rattle.std.proofs.Common.{◌≡◌, take}
use Rattle.vx_cells.proofs.whole.Whole.try_clone.Given as goal

-- the sectors so far
abbrev pub invariant-loop-cells : goal.invariant-loop-cells
invariant-loop-cells l = l.sectors.items ≡ take l.cells-index l.cells-items
