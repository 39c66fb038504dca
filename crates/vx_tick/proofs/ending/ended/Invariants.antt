use Rattle.std.proofs.Common.{◌≡◌, List, map, take}
use Rattle.vx_region.specs.Regions.{Regions}
use Rattle.vx_piston.specs.Claims.{IsTable}
use Rattle.vx_piston.specs.Moves.{Moving}
use Rattle.vx_cause.specs.Judging.{denial}
use Rattle.vx_cause.specs.Laws.{permitted}
use Rattle.vx_tick.specs.Fates.{AreFates}
use Rattle.vx_tick.proofs.ending.ended.Given as goal

-- what becomes of the moves so far
abbrev pub invariant-loop-i : goal.invariant-loop-i
invariant-loop-i l = (rs : Regions) (all : List Moving) → l.denials ≡ map (denial rs) l.moves
    → IsTable (permitted rs all) l.claims → AreFates rs all (take l.i l.moves) l.fates.items
