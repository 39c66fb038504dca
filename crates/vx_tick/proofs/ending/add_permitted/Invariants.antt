use Rattle.std.proofs.Common.{◌≡◌, map, take}
use Rattle.vx_region.specs.Regions.{Regions}
use Rattle.vx_piston.specs.Claims.{IsTable}
use Rattle.vx_cause.specs.Judging.{denial}
use Rattle.vx_cause.specs.Laws.{permitted}
use Rattle.vx_tick.proofs.ending.add_permitted.Given as goal

-- the claims of the moves so far
abbrev pub invariant-loop-i : goal.invariant-loop-i
invariant-loop-i l = (rs : Regions) → l.denials ≡ map (denial rs) l.moves
    → IsTable (permitted rs (take l.i l.moves)) l.claims
