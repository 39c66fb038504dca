use Rattle.vx_sector.proofs.Transfers.{turning_keeps_the_facing}
use Rattle.vx_sector.proofs.laws.turning_keeps_the_facing.Goals as goal

pub returns : goal.returns
returns c = turning_keeps_the_facing
