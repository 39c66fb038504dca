use Rattle.vx_region.specs.Regions.{losing, without_name}
use Rattle.vx_region.proofs.Changes.{region_elsewhere}
use Rattle.vx_region.proofs.Rosters.{name_dropped}
use Rattle.vx_region.proofs.laws.name_is_dropped.Goals as goal

pub returns-clause-dropped : goal.returns-clause-dropped
returns-clause-dropped c = name_dropped

pub returns-clause-others : goal.returns-clause-others
unfolding without_name
returns-clause-others c rs n m roster name other = region_elsewhere (losing roster name) n m rs other
