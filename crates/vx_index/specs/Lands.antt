-- What a land tells of shapes.
use Rattle.std.specs.Prelude.{List}
use Rattle.std.specs.List.{All, flat_map}
use Rattle.vx_index.specs.Tiles.{TellsOf}
use Rattle.vx_index.specs.Shapes.{Shapes}
use Rattle.vx_index.specs.declared.tile.Tile.{Tile}

-- the tiles of all rows, one row after another
abbrev pub joined : List (List Tile) → List Tile
joined rows = flat_map (λ row. row) rows

-- each tile of a land tells of all these shapes where they lie in its columns, and of no others
abbrev pub IsLandOf : Shapes → List Tile → Type 0
IsLandOf shapes tiles = All (TellsOf shapes) tiles
