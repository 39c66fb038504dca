use Rattle.vx_play.proofs.Keeping.{games_stay_filled, games_stay_paired}
use Rattle.vx_play.proofs.laws.heads_stay_with_pistons.Goals as goal

pub returns-clause-filled : goal.returns-clause-filled
returns-clause-filled c = games_stay_filled

pub returns-clause-paired : goal.returns-clause-paired
returns-clause-paired c = games_stay_paired
