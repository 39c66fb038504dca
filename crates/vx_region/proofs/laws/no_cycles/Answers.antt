use Rattle.vx_region.proofs.Chains.{above_irreflexive}
use Rattle.vx_region.proofs.laws.no_cycles.Goals as goal

pub returns : goal.returns
returns c rs n r forest = above_irreflexive rs forest n r
