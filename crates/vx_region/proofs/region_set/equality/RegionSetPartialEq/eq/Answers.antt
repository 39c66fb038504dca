use Rattle.std.proofs.lemmas.Bool.Decides.{Decides-at}
use Rattle.vx_region.specs.RegionsLaws.{regions_decided}
use Rattle.vx_region.proofs.region_set.equality.RegionSetPartialEq.eq.Goals as goal

pub returns-clause-decides : goal.returns-clause-decides
returns-clause-decides c = Decides-at _ _ c.same_parts.ensures (regions_decided _ _)
