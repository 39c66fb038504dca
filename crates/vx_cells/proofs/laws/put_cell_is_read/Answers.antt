use Rattle.vx_cells.proofs.Putting.{cell_of_block, put_inside, put_stays_filled, put_cell_is_read, others_stay}
use Rattle.vx_cells.proofs.laws.put_cell_is_read.Goals as goal

pub returns-clause-inside : goal.returns-clause-inside
returns-clause-inside c = put_inside

pub returns-clause-filled : goal.returns-clause-filled
returns-clause-filled c = put_stays_filled

pub returns-clause-read : goal.returns-clause-read
returns-clause-read c = put_cell_is_read

pub returns-clause-others : goal.returns-clause-others
returns-clause-others c = others_stay

pub returns-clause-cell : goal.returns-clause-cell
returns-clause-cell c = cell_of_block
