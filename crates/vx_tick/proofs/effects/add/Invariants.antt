use Rattle.std.proofs.Common.{◌≡◌, ◌++◌, take}
use Rattle.vx_tick.specs.Ticks.{effects}
use Rattle.vx_tick.proofs.effects.add.Given as goal

-- what the move puts down in its cells so far
abbrev pub invariant-loop-i : goal.invariant-loop-i
invariant-loop-i g l = l.cells.items ≡ l.fn.cells.items ++ take l.i (effects (g.S.Standing.stands l.map) l.m)
