-- What a tick changes among so many positions, pistons left out.
use Rattle.std.specs.Prelude.{ℕ, List, [], ◌∷◌, Option, Some, None, if◌then◌else◌}
use Rattle.vx_geom.specs.declared.pos.Pos.{Pos}
use Rattle.vx_block.specs.declared.cell.Cell.{Cell}
use Rattle.vx_cells.specs.SameCells.{same_cell}
use Rattle.vx_part.specs.Parts.{next_part}

-- what stands at p after the tick, where that is another cell
unfoldable pub change_at : (Pos → Cell) → (Pos → ℕ) → Pos → Option Cell
change_at w level p =
    if same_cell (next_part w level p) (w p) then None else Some (next_part w level p)

-- a change, if there is one, before others
abbrev pub before : Pos → Option Cell → List (Pos × Cell) → List (Pos × Cell)
before p None others = others
before p (Some cell) others = (p, cell) ∷ others

-- each change among these positions, beside its position
abbrev pub changes : (Pos → Cell) → (Pos → ℕ) → List Pos → List (Pos × Cell)
changes w level [] = []
changes w level (p ∷ ps) = before p (change_at w level p) (changes w level ps)
