use Rattle.std.proofs.Common.{◌≡◌, false, take}
use Rattle.std.specs.List.{All}
use Rattle.vx_geom.specs.declared.pos.Pos.{Pos}
use Rattle.vx_power.specs.Levels.{has}
use Rattle.vx_windows.specs.Writing.{IsSpared}
use Rattle.vx_windows.proofs.writes.written.Given as goal

-- the sectors so far are spared, but at positions that were added
abbrev pub invariant-loop-sector : goal.invariant-loop-sector
invariant-loop-sector l = (p : Pos) → has l.places.items p ≡ false → All (IsSpared p) (take l.sector-index l.sectors)
