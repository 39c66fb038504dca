use Rattle.std.proofs.Common.{take}
use Rattle.std.specs.List.{All}
use Rattle.vx_cells.specs.SectorCells.{IsWhole}
use Rattle.vx_cells.proofs.whole.Whole.soundness.Given as goal

-- something stands at each place of the sectors so far
abbrev pub invariant-loop-cells : goal.invariant-loop-cells
invariant-loop-cells l = All IsWhole (take l.cells-index l.cells-items)
