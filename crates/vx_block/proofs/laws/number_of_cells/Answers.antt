use Rattle.vx_block.proofs.Counts.{cells_counted, cells_are, each_once}
use Rattle.vx_block.proofs.laws.number_of_cells.Goals as goal

pub returns-clause-count : goal.returns-clause-count
returns-clause-count c = cells_counted

pub returns-clause-ranged : goal.returns-clause-ranged
returns-clause-ranged c = cells_are

pub returns-clause-once : goal.returns-clause-once
returns-clause-once c = each_once
