use Rattle.std.proofs.Common.{◌≡◌, ◌++◌, take}
use Rattle.std.specs.List.{flat_map}
use Rattle.vx_cells.specs.Maps.{cell_on}
use Rattle.vx_power.specs.Spreading.{dust_at}
use Rattle.vx_power.proofs.fed_dust.add_around.Given as goal

-- the dust in the directions so far is added
abbrev pub invariant-loop-dir : goal.invariant-loop-dir
invariant-loop-dir l =
    l.list.items ≡ l.initial.list.items ++ flat_map (dust_at (cell_on l.map) l.fn.p) (take l.dir-index l.dir-items)
