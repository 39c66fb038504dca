use Rattle.vx_region.specs.Regions.{gaining, with_name}
use Rattle.vx_region.proofs.Changes.{region_elsewhere}
use Rattle.vx_region.proofs.Rosters.{name_added}
use Rattle.vx_region.proofs.laws.name_is_added.Goals as goal

pub returns-clause-added : goal.returns-clause-added
returns-clause-added c = name_added

pub returns-clause-others : goal.returns-clause-others
unfolding with_name
returns-clause-others c rs n m roster name other = region_elsewhere (gaining roster name) n m rs other
