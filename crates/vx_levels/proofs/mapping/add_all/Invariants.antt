use Rattle.std.proofs.Common.{List, ◌++◌, take}
use Rattle.vx_cells.specs.Maps.{cell_on}
use Rattle.vx_geom.specs.declared.pos.Pos.{Pos}
use Rattle.vx_levels.specs.Repairs.{IsRightAt}
use Rattle.vx_levels.proofs.mapping.add_all.Given as goal

-- the dust at the positions so far is added
abbrev pub invariant-loop-p : goal.invariant-loop-p
invariant-loop-p l = (done : List Pos) → IsRightAt (cell_on l.map) l.fn.linked done
    → IsRightAt (cell_on l.map) l.linked (done ++ take l.p-index l.places)
