use Rattle.std.proofs.Common.{◌≡◌, length, take}
use Rattle.vx_region.specs.Blocks.{joined, AreInPlace}
use Rattle.vx_region.proofs.region_list.edits.put_in_place.Given as goal

-- the blocks up to this one are in place, and this is where they end
abbrev pub invariant-loop-index : goal.invariant-loop-index
invariant-loop-index l = record {
  in_place : AreInPlace 0 (take l.index l.blocks.items);
  end : l.start ≡ length (joined (take l.index l.blocks.items));
  regions : joined l.blocks.items ≡ joined l.initial.blocks.items;
  count : length l.blocks.items ≡ length l.initial.blocks.items;
}
