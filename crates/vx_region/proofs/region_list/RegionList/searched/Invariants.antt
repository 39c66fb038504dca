use Rattle.std.proofs.Common.{◌-◌, ◌≤◌, length}
use Rattle.vx_region.specs.Blocks.{AreBefore, AreBehind}
use Rattle.vx_region.proofs.region_list.RegionList.searched.Given as goal

-- the number is at no place but those that are left
abbrev pub invariant-loop-low : goal.invariant-loop-low
invariant-loop-low l = record {
  before : AreBefore l.low l.number l.self;
  behind : AreBehind l.high l.number l.self;
  within : l.high ≤ length l.self;
}

abbrev pub decreases-loop-low : goal.decreases-loop-low
decreases-loop-low l = l.high - l.low
