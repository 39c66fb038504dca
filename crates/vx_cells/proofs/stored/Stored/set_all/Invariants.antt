use Rattle.std.proofs.Common.{◌≡◌, drop}
use Rattle.vx_geom.specs.declared.pos.Pos.{Pos}
use Rattle.vx_cells.specs.SectorCells.{holds, with_cells}
use Rattle.vx_cells.proofs.stored.Stored.set_all.Given as goal

-- what is left to be put down leads to the same cells, and the sector holds the same positions
abbrev pub invariant-loop-p : goal.invariant-loop-p
invariant-loop-p l =
    (with_cells l.self (drop l.p-index l.puts) ≡ with_cells l.fn.self l.puts)
    × ((q : Pos) → holds l.self q ≡ holds l.fn.self q)
