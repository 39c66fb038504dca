use Rattle.vx_region.proofs.Changes.{region_defined, region_kept, number_defined, number_kept}
use Rattle.vx_region.proofs.laws.definition_adds_one.Goals as goal

pub returns-clause-fresh : goal.returns-clause-fresh
returns-clause-fresh c = region_defined

pub returns-clause-others : goal.returns-clause-others
returns-clause-others c = region_kept

pub returns-clause-found : goal.returns-clause-found
returns-clause-found c = number_defined

pub returns-clause-ids : goal.returns-clause-ids
returns-clause-ids c = number_kept
