use Rattle.vx_cells.specs.CellsLaws.{cells_decided}
use Rattle.vx_cells.proofs.laws.equal_is_the_same.Goals as goal

pub returns : goal.returns
returns c = cells_decided
