use Rattle.std.proofs.Common.{◌≡◌, ◌≤◌, ◌*◌, ◌^◌, take}
use Rattle.std.specs.List.{sum_by}
use Rattle.vx_sector.specs.Windows.{count_of}
use Rattle.vx_play.proofs.play.Play.calls.Given as goal

-- the entries of the sectors so far
abbrev pub invariant-loop-sector : goal.invariant-loop-sector
invariant-loop-sector g l = (l.calls ≡ sum_by count_of (take l.sector-index l.sector-items)) × (l.calls ≤ l.sector-index * 2 ^ 40)
