use Rattle.std.proofs.Common.{arith}
use Rattle.vx_region.proofs.Numbers.{count_below}
use Rattle.vx_region.proofs.region_set.RegionSet.count.Goals as goal

pub prove-unreachable-requires : goal.prove-unreachable-requires
prove-unreachable-requires c =
    omega (arith, count_below 0 c.self.inside.last c.self.inside.regions c.self.invariant.forest.numbered.ascending c.self.invariant.forest.numbered.given)
