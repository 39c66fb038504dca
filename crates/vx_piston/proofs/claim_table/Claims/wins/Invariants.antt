use Rattle.std.proofs.Common.{List, take}
use Rattle.vx_piston.specs.Claims.{IsTable}
use Rattle.vx_piston.specs.Moves.{Moving}
use Rattle.vx_piston.proofs.Firsts.{IsFirst}
use Rattle.vx_piston.proofs.Rivals.{Rivals}
use Rattle.vx_piston.proofs.claim_table.Claims.wins.Given as goal

-- the first of the rivals in the cells so far
abbrev pub invariant-loop-p : goal.invariant-loop-p
invariant-loop-p l =
    (claims : List Moving) → IsTable claims l.self
    → IsFirst (Rivals claims l.m-inside.at (take l.p-index l.p-items)) l.first
