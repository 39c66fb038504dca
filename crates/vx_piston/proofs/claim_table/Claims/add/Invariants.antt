use Rattle.std.proofs.Common.{take}
use Rattle.vx_power.specs.Levels.{has}
use Rattle.vx_piston.proofs.Wanted.{Claimed}
use Rattle.vx_piston.proofs.claim_table.Claims.add.Given as goal

-- the cells so far are claimed
abbrev pub invariant-loop-p : goal.invariant-loop-p
invariant-loop-p l = Claimed (has (take l.p-index l.p-items)) l.m-inside.at l.initial.self l.self
