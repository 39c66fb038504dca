use Rattle.std.proofs.Common.{take}
use Rattle.vx_index.specs.Patches.{square, AreOf}
use Rattle.vx_index.proofs.Beginning.{shapes_in}
use Rattle.vx_index.proofs.tile.Tile.new.Given as goal

-- the patches are of the regions' shapes so far
abbrev pub invariant-loop-place : goal.invariant-loop-place
invariant-loop-place l = AreOf (shapes_in (take l.place l.regions.entries)) (square l.west l.north) l.patches.items
