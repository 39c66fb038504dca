use Rattle.std.proofs.Common.{◌≡◌, ◌++◌, drop}
use Rattle.std.specs.List.{filter}
use Rattle.vx_cells.specs.Maps.{cell_on}
use Rattle.vx_part.specs.Changes.{changes}
use Rattle.vx_piston.specs.Moves.{is_restless}
use Rattle.vx_tick.proofs.seen.Seen.add_all.Given as goal

-- what was added, and what is seen at the positions that are left
abbrev pub invariant-loop-p : goal.invariant-loop-p
invariant-loop-p g l =
    (l.self.changes.items ++ changes (cell_on l.map) (g.L.Leveled.level l.levels) (drop l.p-index l.positions)
    ≡ l.fn.self.changes.items ++ changes (cell_on l.map) (g.L.Leveled.level l.levels) l.positions)
    × (l.self.restless.items ++ filter (is_restless (cell_on l.map) (g.L.Leveled.level l.levels)) (drop l.p-index l.positions)
    ≡ l.fn.self.restless.items ++ filter (is_restless (cell_on l.map) (g.L.Leveled.level l.levels)) l.positions)
