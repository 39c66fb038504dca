use Rattle.std.proofs.Common.{◌≡◌, ◌+◌, length, vec_len}
use Rattle.vx_keeper.specs.Marks.{AreParts}
use Rattle.vx_world.proofs.world.World.put_some.Given as goal

-- so many sectors are left
abbrev pub invariant-loop-at : goal.invariant-loop-at
invariant-loop-at g l =
    (l.self.bounds ≡ l.fn.self.bounds)
    × (vec_len l.taken.sectors + length l.yielded ≡ length l.numbers)
    × AreParts l.keeper.world l.taken.are_parts.items l.taken.sectors.items
