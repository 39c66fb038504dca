use Rattle.std.proofs.Common.{◌≡◌, ℕ, ◌<◌, true, Some}
use Rattle.vx_geom.specs.declared.pos.Pos.{Pos}
use Rattle.vx_geom.specs.Sizes.{sector_of}
use Rattle.vx_block.specs.Components.{is_component}
use Rattle.vx_cells.specs.Maps.{cell_on}
use Rattle.vx_power.specs.Levels.{has}
use Rattle.vx_still.proofs.anew.components.Given as goal

-- the components of the sectors so far are found
abbrev pub invariant-loop-sector : goal.invariant-loop-sector
invariant-loop-sector l = (p : Pos) (k : ℕ) → k < l.sector → sector_of l.map.sizes p ≡ Some k
    → is_component (cell_on l.map p) ≡ true → has l.found.items p ≡ true
