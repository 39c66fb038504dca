use Rattle.std.proofs.Common.{◌≡◌, ◌<◌, ◌≤◌, ◌-◌, length, take}
use Rattle.std.specs.List.{All}
use Rattle.vx_geom.specs.Sizes.{sector_of}
use Rattle.vx_windows.proofs.changes.count_together.Given as goal

-- the cells so far lie where the first does
abbrev pub invariant-loop-count : goal.invariant-loop-count
invariant-loop-count l =
    (0 < l.count) × (l.count ≤ length l.puts)
    × All (λ put. sector_of l.bounds put.0 ≡ l.sector) (take l.count l.puts)

abbrev pub decreases-loop-count : goal.decreases-loop-count
decreases-loop-count l = length l.puts - l.count
