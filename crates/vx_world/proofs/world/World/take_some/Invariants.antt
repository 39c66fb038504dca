use Rattle.std.proofs.Common.{◌≡◌, vec_len}
use Rattle.vx_keeper.specs.Marks.{AreParts}
use Rattle.vx_world.proofs.world.World.take_some.Given as goal

-- so many sectors were taken
abbrev pub invariant-loop-at : goal.invariant-loop-at
invariant-loop-at g l =
    (l.self.bounds ≡ l.fn.self.bounds)
    × (vec_len l.taken.sectors ≡ l.at-index)
    × AreParts l.keeper.world l.taken.are_parts.items l.taken.sectors.items
