use Rattle.vx_region.proofs.Strangers.{stranger_at_large}
use Rattle.vx_region.proofs.laws.stranger_at_large.Goals as goal

pub returns : goal.returns
returns c = stranger_at_large
