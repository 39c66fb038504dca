use Rattle.std.proofs.Common.{◌≡◌, ◌++◌, drop}
use Rattle.vx_tick.specs.Ticks.{put_down}
use Rattle.vx_tick.proofs.effects.put_down.Given as goal

-- what the moves so far put down, and what the others do
abbrev pub invariant-loop-i : goal.invariant-loop-i
invariant-loop-i g l =
    l.cells.items ++ put_down (g.S.Standing.stands l.map) (drop l.i l.moves) (drop l.i l.fates)
    ≡ put_down (g.S.Standing.stands l.map) l.moves l.fates
