use Rattle.vx_places.proofs.Steps.{one_step_is_one_more}
use Rattle.vx_places.proofs.laws.one_step_is_one_more.Goals as goal

pub returns : goal.returns
returns c = one_step_is_one_more
