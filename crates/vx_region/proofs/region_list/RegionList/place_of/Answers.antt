use Rattle.std.proofs.Common.{ap, option_map}
use Rattle.vx_region.specs.Regions.{Entry}
use Rattle.vx_region.proofs.region_list.RegionList.place_of.Goals as goal

pub returns-in-Some-clause-found : goal.returns-in-Some-clause-found
returns-in-Some-clause-found c = ap (option_map (λ (e : Entry). e.0)) c.in-Some.ensures
