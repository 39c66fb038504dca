use Rattle.vx_decide.proofs.Ranks.{one_denial_denies}
use Rattle.vx_decide.proofs.laws.one_denial_denies.Goals as goal

pub returns : goal.returns
returns c = one_denial_denies
