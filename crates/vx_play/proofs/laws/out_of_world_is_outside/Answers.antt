use Rattle.vx_play.proofs.Whole.{out_of_world_is_outside}
use Rattle.vx_play.proofs.laws.out_of_world_is_outside.Goals as goal

pub returns : goal.returns
returns c = out_of_world_is_outside
