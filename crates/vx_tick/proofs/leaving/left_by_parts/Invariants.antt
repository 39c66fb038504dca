use Rattle.std.proofs.Common.{◌≡◌, ◌++◌, drop}
use Rattle.vx_cells.specs.Maps.{cell_on}
use Rattle.vx_tick.specs.Leaving.{hidden_changes, shown_changes}
use Rattle.vx_tick.proofs.leaving.left_by_parts.Given as goal

-- what was found, and what is found in what is left
abbrev pub invariant-loop-p : goal.invariant-loop-p
invariant-loop-p l =
    (l.waking.turned ++ shown_changes (cell_on l.map) (drop l.p-index l.changes)
    ≡ shown_changes (cell_on l.map) l.changes)
    × (l.waking.besides ++ hidden_changes (cell_on l.map) (drop l.p-index l.changes)
    ≡ hidden_changes (cell_on l.map) l.changes)
