use Rattle.vx_play.proofs.Whole.{ticks_are_steps}
use Rattle.vx_play.proofs.laws.ticks_are_steps.Goals as goal

pub returns : goal.returns
returns c = ticks_are_steps
