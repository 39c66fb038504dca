use Rattle.vx_sector.proofs.ActingLemmas.{denied_by_the_policy}
use Rattle.vx_sector.proofs.laws.denied_by_the_policy.Goals as goal

pub returns : goal.returns
returns c = denied_by_the_policy
