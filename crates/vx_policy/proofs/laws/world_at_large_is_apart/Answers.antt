use Rattle.vx_policy.proofs.AtLarge.{flags_at_large_are_kept, regions_are_kept}
use Rattle.vx_policy.proofs.laws.world_at_large_is_apart.Goals as goal

pub returns-clause-flags : goal.returns-clause-flags
returns-clause-flags c = flags_at_large_are_kept

pub returns-clause-regions : goal.returns-clause-regions
returns-clause-regions c = regions_are_kept
