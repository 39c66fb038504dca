use Rattle.vx_cells.specs.Maps.{cell_on}
use Rattle.vx_levels.specs.Repairs.{ChangesAt, IsUnderRepair}
use Rattle.vx_levels.proofs.repairing.repair.Given as goal

-- all but what is pending is right, and levels changed where they are told
pub record Mends (l : goal.Live-loop) : Type 0 where
  pub right : IsUnderRepair (cell_on l.map) l.levels l.pending
  pub changes : ChangesAt l.put.items l.fn.levels l.levels

abbrev pub invariant-loop : goal.invariant-loop
invariant-loop l = Mends l
