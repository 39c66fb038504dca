use Rattle.std.proofs.Common.{◌≡◌}
use Rattle.vx_region.specs.SameRegions.{same_entry, same_entries}
use Rattle.vx_region.proofs.SameLists.{same_left}
use Rattle.vx_region.proofs.region_set.RegionSet.same_entries.Given as goal

abbrev pub invariant-loop-i : goal.invariant-loop-i
invariant-loop-i l = same_left same_entry l.self.entries l.other.entries l.i ≡ same_entries l.self.entries l.other.entries
