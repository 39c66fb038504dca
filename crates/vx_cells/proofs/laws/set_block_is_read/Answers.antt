use Rattle.vx_cells.proofs.CellLaws.{set_block_is_read}
use Rattle.vx_cells.proofs.laws.set_block_is_read.Goals as goal

pub returns : goal.returns
returns c = set_block_is_read
