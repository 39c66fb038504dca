use Rattle.std.proofs.Common.{◌≡◌, map}
use Rattle.vx_windows.specs.Sectors.{opened_by}
use Rattle.vx_windows.proofs.windows.open_sectors.Given as goal

-- the sectors of the cells so far
abbrev pub invariant-loop-cells : goal.invariant-loop-cells
invariant-loop-cells l = l.sectors.items ≡ map (opened_by l.version) l.yielded
