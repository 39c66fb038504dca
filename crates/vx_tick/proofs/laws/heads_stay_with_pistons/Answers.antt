use Rattle.vx_tick.proofs.Pairs.{stays_paired}
use Rattle.vx_tick.proofs.laws.heads_stay_with_pistons.Goals as goal

pub returns : goal.returns
returns c = stays_paired
