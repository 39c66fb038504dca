use Rattle.vx_region.proofs.Lookups.{region_at_place}
use Rattle.vx_region.proofs.laws.each_has_its_number.Goals as goal

pub returns : goal.returns
returns c = region_at_place
