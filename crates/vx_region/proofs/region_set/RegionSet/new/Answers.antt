use Rattle.vx_region.proofs.Indexing.{sound_empty}
use Rattle.vx_region.proofs.region_set.RegionSet.new.Goals as goal

pub invariant_of-result : goal.invariant_of-result
invariant_of-result c =
    sound_empty (record { last = 0; entries = c.new.result; global = c.new-4.result }) c.new-2.result c.new-3.result c.new.ensures c.new-2.ensures c.new-3.ensures
