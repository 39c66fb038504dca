use Rattle.vx_part.proofs.Reading.{parts_read}
use Rattle.vx_part.proofs.laws.parts_read_four_steps.Goals as goal

pub returns : goal.returns
returns c = parts_read
