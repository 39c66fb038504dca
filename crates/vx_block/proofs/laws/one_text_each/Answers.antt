use Rattle.vx_block.proofs.Parts.{one_part}
use Rattle.vx_block.proofs.Cells.{one_cell}
use Rattle.vx_block.proofs.laws.one_text_each.Goals as goal

pub returns-clause-cells : goal.returns-clause-cells
returns-clause-cells c = one_cell

pub returns-clause-parts : goal.returns-clause-parts
returns-clause-parts c = one_part
