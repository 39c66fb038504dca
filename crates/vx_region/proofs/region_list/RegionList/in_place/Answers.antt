use Rattle.vx_region.proofs.Places.{found_at}
use Rattle.vx_region.proofs.region_list.RegionList.in_place.Goals as goal

pub returns-then-found-number : goal.returns-then-found-number
returns-then-found-number c =
    found_at c.args.number 0 c.args.self.now c.in_ok-place.place (c.in_ok-found.found, c.in_ok-found.region.now) c.requires c.in_ok-found.ensures c.if-found-number.true
