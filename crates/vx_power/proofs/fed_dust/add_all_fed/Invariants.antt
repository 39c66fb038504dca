use Rattle.std.proofs.Common.{◌≡◌, ◌++◌, take}
use Rattle.std.specs.List.{flat_map}
use Rattle.vx_cells.specs.Maps.{cell_on}
use Rattle.vx_power.specs.Spreading.{fed_from}
use Rattle.vx_power.specs.Turning.{all_on}
use Rattle.vx_power.proofs.fed_dust.add_all_fed.Given as goal

-- what the parts so far would feed is added
abbrev pub invariant-loop-p : goal.invariant-loop-p
invariant-loop-p l =
    l.list.items ≡ l.initial.list.items ++ flat_map (fed_from (all_on (cell_on l.map))) (take l.p-index l.parts)
