use Rattle.std.proofs.Common.{refl}
use Rattle.vx_region.specs.Regions.{without_region}
use Rattle.vx_region.proofs.IdLemmas.{id_freed, id_kept}
use Rattle.vx_region.proofs.Removals.{region_removed, region_beside}
use Rattle.vx_region.proofs.laws.removal_takes_one.Goals as goal

pub returns-clause-gone : goal.returns-clause-gone
returns-clause-gone c = region_removed

pub returns-clause-others : goal.returns-clause-others
returns-clause-others c = region_beside

pub returns-clause-last : goal.returns-clause-last
unfolding without_region
returns-clause-last c rs n = refl

pub returns-clause-id : goal.returns-clause-id
returns-clause-id c = id_freed

pub returns-clause-ids : goal.returns-clause-ids
returns-clause-ids c = id_kept
