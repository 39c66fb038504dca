use Rattle.std.proofs.Common.{take}
use Rattle.vx_piston.specs.Claims.{IsTable}
use Rattle.vx_piston.proofs.claiming.add_all.Given as goal

-- the table of the claims so far
abbrev pub invariant-loop-m : goal.invariant-loop-m
invariant-loop-m l = IsTable (take l.m-index l.moves) l.claims
