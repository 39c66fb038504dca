use Rattle.std.proofs.Common.{◌-◌, ◌<◌, ◌≤◌, length, take}
use Rattle.vx_region.specs.Blocks.{joined}
use Rattle.vx_region.proofs.region_list.block_of.Given as goal

-- the place lies in one of the blocks that are left
abbrev pub invariant-loop-high : goal.invariant-loop-high
invariant-loop-high l = record {
  ordered : l.low < l.high;
  within : l.high ≤ length l.blocks;
  from : length (joined (take l.low l.blocks)) ≤ l.place;
  below : l.place < length (joined (take l.high l.blocks));
}

abbrev pub decreases-loop-high : goal.decreases-loop-high
decreases-loop-high l = l.high - l.low
