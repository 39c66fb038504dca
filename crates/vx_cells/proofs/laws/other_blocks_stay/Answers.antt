use Rattle.vx_cells.proofs.CellLaws.{other_blocks_stay}
use Rattle.vx_cells.proofs.laws.other_blocks_stay.Goals as goal

pub returns : goal.returns
returns c = other_blocks_stay
