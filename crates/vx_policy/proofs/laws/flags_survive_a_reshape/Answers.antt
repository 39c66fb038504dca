use Rattle.vx_policy.proofs.Others.{flags_survive_a_reshape}
use Rattle.vx_policy.proofs.laws.flags_survive_a_reshape.Goals as goal

pub returns : goal.returns
returns c = flags_survive_a_reshape
