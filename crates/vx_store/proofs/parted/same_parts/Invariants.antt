use Rattle.std.proofs.Common.{◌≡◌, ℕ, ◌<◌}
use Rattle.vx_store.specs.ChestParts.{part_of, chests_of}
use Rattle.vx_store.specs.Chests.{slots_of_chest}
use Rattle.vx_store.proofs.parted.same_parts.Given as goal

-- the same at the indices of the parts so far
abbrev pub invariant-loop-number : goal.invariant-loop-number
invariant-loop-number g l = (index : ℕ) → part_of l.fn.stride index < l.number
    → slots_of_chest (chests_of g.P.HasChests.chests l.fn.these) index ≡ slots_of_chest (chests_of g.P.HasChests.chests l.fn.those) index
