use Rattle.std.proofs.lemmas.Bool.Decides.{Decides-at}
use Rattle.vx_region.specs.RegionsLaws.{region_decided}
use Rattle.vx_region.proofs.region.RegionPartialEq.eq.Goals as goal

pub returns-clause-decides : goal.returns-clause-decides
returns-clause-decides c = Decides-at _ _ c.same_parts.ensures (region_decided _ _)
