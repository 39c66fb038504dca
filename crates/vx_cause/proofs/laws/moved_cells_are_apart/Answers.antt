use Rattle.vx_cause.proofs.Made.{moved_are_apart, moved_share_no_cell}
use Rattle.vx_cause.proofs.laws.moved_cells_are_apart.Goals as goal

pub returns-clause-cells : goal.returns-clause-cells
returns-clause-cells c = moved_are_apart

pub returns-clause-moves : goal.returns-clause-moves
returns-clause-moves c = moved_share_no_cell
