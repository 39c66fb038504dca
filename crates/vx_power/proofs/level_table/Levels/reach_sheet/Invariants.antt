use Rattle.std.proofs.Common.{◌≡◌, ◌+◌, ◌-◌, length}
use Rattle.vx_geom.specs.declared.pos.Pos.{Pos}
use Rattle.vx_power.specs.Levels.{level_in}
use Rattle.vx_power.proofs.level_table.Levels.reach_sheet.Given as goal

-- no level has changed
abbrev pub invariant-loop-self : goal.invariant-loop-self
invariant-loop-self l =
    (p : Pos) → level_in l.self-inside.sheets.items p ≡ level_in l.initial.self-inside.sheets.items p

abbrev pub decreases-loop-self : goal.decreases-loop-self
decreases-loop-self l = l.number + 1 - length l.self-inside.sheets.items
