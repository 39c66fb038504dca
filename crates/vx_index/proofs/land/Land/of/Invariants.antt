use Rattle.std.specs.Prelude.{List}
use Rattle.std.specs.List.{All}
use Rattle.vx_index.specs.Tiles.{IsTile}
use Rattle.vx_index.specs.declared.tile.Tile.{Tile}
use Rattle.vx_index.proofs.land.Land.of.Given as goal

-- the tiles of all rows so far tell of the regions
abbrev pub invariant-loop-row : goal.invariant-loop-row
invariant-loop-row l = All (λ (row : List Tile). All (IsTile l.regions) row) l.rows.items
