use Rattle.std.proofs.Common.{take, drop}
use Rattle.vx_geom.specs.Extent.{is_within}
use Rattle.vx_index.proofs.Listed.{Listed}
use Rattle.vx_index.proofs.tile.Tile.gather.Given as goal

-- the numbers of the patches so far that have the position are gathered
abbrev pub invariant-loop-patch : goal.invariant-loop-patch
invariant-loop-patch g l =
    Listed (λ d. is_within d.columns l.p) (take l.patch-index l.self.patches.items) (drop l.patch-index l.self.patches.items) l.here.items l.last
