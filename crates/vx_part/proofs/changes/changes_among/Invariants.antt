use Rattle.std.proofs.Common.{◌≡◌, ◌++◌, drop}
use Rattle.vx_cells.specs.Maps.{cell_on}
use Rattle.vx_part.specs.Changes.{changes}
use Rattle.vx_part.proofs.changes.changes_among.Given as goal

-- what was found, and the changes among what is left
abbrev pub invariant-loop-p : goal.invariant-loop-p
invariant-loop-p g l =
    l.found.items ++ changes (cell_on l.map) (g.L.Leveled.level l.levels) (drop l.p-index l.positions)
    ≡ changes (cell_on l.map) (g.L.Leveled.level l.levels) l.positions
