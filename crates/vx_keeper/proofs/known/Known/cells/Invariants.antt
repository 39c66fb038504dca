use Rattle.std.proofs.Common.{◌≡◌, ◌≤◌, length, map, take, vec_capacity}
use Rattle.vx_keeper.proofs.known.Known.cells.Given as goal

-- the cells of the sectors so far, and there is room for the others
abbrev pub invariant-loop-sector : goal.invariant-loop-sector
invariant-loop-sector l =
    (map (λ c. c.now) l.cells.items ≡ take l.sector-index l.sector-items)
    × (length l.sector-items ≤ vec_capacity l.cells)
