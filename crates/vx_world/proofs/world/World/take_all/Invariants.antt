use Rattle.std.proofs.Common.{◌≡◌, vec_len}
use Rattle.vx_keeper.specs.Marks.{AreParts}
use Rattle.vx_world.proofs.world.World.take_all.Given as goal

-- so many sectors were taken
abbrev pub invariant-loop-slot : goal.invariant-loop-slot
invariant-loop-slot g l =
    (vec_len l.taken.sectors ≡ l.slot-index)
    × AreParts l.keeper.world l.taken.are_parts.items l.taken.sectors.items
