use Rattle.vx_region.proofs.Changes.{region_changed, region_elsewhere}
use Rattle.vx_region.proofs.laws.one_region_changes.Goals as goal

pub returns-clause-there : goal.returns-clause-there
returns-clause-there c change rs n = region_changed change n rs

pub returns-clause-others : goal.returns-clause-others
returns-clause-others c change rs n m other = region_elsewhere change n m rs other
