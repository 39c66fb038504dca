use Rattle.vx_region.proofs.Chains.{ancestors_by_parent}
use Rattle.vx_region.proofs.laws.ancestry_is_whole.Goals as goal

pub returns : goal.returns
returns c rs n forest = ancestors_by_parent rs forest n
