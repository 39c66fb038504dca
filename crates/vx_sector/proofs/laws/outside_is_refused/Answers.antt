use Rattle.vx_sector.proofs.Outside.{outside_is_refused}
use Rattle.vx_sector.proofs.laws.outside_is_refused.Goals as goal

pub returns : goal.returns
returns c = outside_is_refused
