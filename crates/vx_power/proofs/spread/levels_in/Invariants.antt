use Rattle.vx_cells.specs.Maps.{cell_on}
use Rattle.vx_power.specs.Levels.{is_in}
use Rattle.vx_power.specs.Spreading.{fed_in, links_in, IsSpread}
use Rattle.vx_power.proofs.spread.levels_in.Given as goal

-- levels are spread by as many links
abbrev pub invariant-loop-links : goal.invariant-loop-links
invariant-loop-links l =
    IsSpread (is_in l.columns) (fed_in (cell_on l.map) (is_in l.columns))
    (links_in (cell_on l.map) (is_in l.columns)) l.links l.spread
