use Rattle.vx_sector.proofs.ActingLemmas.{refusal_leaves_cells}
use Rattle.vx_sector.proofs.laws.refusal_leaves_cells.Goals as goal

pub returns : goal.returns
returns c = refusal_leaves_cells
