use Rattle.vx_sector.proofs.Keeping.{extended_pistons_stay}
use Rattle.vx_sector.proofs.laws.extended_pistons_stay.Goals as goal

pub returns : goal.returns
returns c = extended_pistons_stay
