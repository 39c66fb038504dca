use Rattle.std.proofs.Common.{◌≡◌, map, take}
use Rattle.vx_cause.specs.Judging.{denial}
use Rattle.vx_tick.proofs.ending.denials.Given as goal

-- what denies the moves so far
abbrev pub invariant-loop-m : goal.invariant-loop-m
invariant-loop-m g l =
    l.denials.items ≡ map (denial (g.D.Decide.policy l.policy)) (take l.m-index l.moves)
