use Rattle.vx_part.proofs.Changing.{stays}
use Rattle.vx_part.proofs.laws.other_cells_stay.Goals as goal

pub returns : goal.returns
returns c w level p is = stays w level p (w p) is
