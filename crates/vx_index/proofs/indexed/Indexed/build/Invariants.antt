use Rattle.std.specs.List.{All}
use Rattle.vx_index.specs.Tiles.{IsTile}
use Rattle.vx_index.proofs.indexed.Indexed.build.Given as goal

-- the tiles of the sectors so far tell of the regions
abbrev pub invariant-loop-sector : goal.invariant-loop-sector
invariant-loop-sector l = All (IsTile l.regions) l.tiles.items
