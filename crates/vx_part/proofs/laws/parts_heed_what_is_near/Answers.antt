use Rattle.vx_part.proofs.Reading.{parts_heed}
use Rattle.vx_part.proofs.laws.parts_heed_what_is_near.Goals as goal

pub returns : goal.returns
returns c = parts_heed
