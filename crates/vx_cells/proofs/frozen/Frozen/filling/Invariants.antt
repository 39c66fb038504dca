use Rattle.std.proofs.Common.{take}
use Rattle.std.specs.List.{All}
use Rattle.vx_cells.specs.SectorCells.{IsWhole}
use Rattle.vx_cells.proofs.frozen.Frozen.filling.Given as goal

-- something stands at each place of the sectors so far
abbrev pub invariant-loop-sector : goal.invariant-loop-sector
invariant-loop-sector l = All IsWhole (take l.sector l.self.sectors)
