use Rattle.vx_part.proofs.Reading.{parts_read_shown}
use Rattle.vx_part.proofs.laws.parts_read_what_is_shown.Goals as goal

pub returns : goal.returns
returns c = parts_read_shown
