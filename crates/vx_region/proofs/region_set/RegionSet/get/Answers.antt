use Rattle.std.proofs.Common.{◌∙◌}
use Rattle.vx_region.specs.Regions.{region_at}
use Rattle.vx_region.proofs.Lookups.{lookup_is}
use Rattle.vx_region.proofs.region_set.RegionSet.get.Goals as goal

pub returns : goal.returns
unfolding region_at
returns c = rw (← c.self.view_is) (c.get.ensures ∙ lookup_is c.args.number.0 c.self.inside.regions)
