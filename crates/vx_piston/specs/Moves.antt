-- What a piston would move.
use Rattle.std.specs.Prelude.{ℕ, zero, suc, ◌+◌, Bool, true, false, not, List, [], ◌∷◌, ◌++◌, if◌then◌else◌, Option, Some, None, option_map}
use Rattle.vx_piston.specs.declared.moves.TheConstants.{MAX_PUSHED, MAX_CELLS}
use Rattle.vx_geom.specs.declared.dir.Dir.{Dir}
use Rattle.vx_geom.specs.declared.pos.Pos.{Pos}
use Rattle.vx_geom.specs.Neighbor.{neighbor}
use Rattle.vx_geom.specs.Sizes.{is_inside}
use Rattle.vx_block.specs.declared.cell.Cell.{Cell}
use Rattle.vx_block.specs.declared.cell.Cell.TheVariants.{Piston}
use Rattle.vx_block.specs.declared.mobility.Mobility.{Mobility}
use Rattle.vx_block.specs.declared.mobility.Mobility.TheVariants.{Empty, Moves, Breaks, Stays}
use Rattle.vx_block.specs.Mobilities.{mobility_of}
use Rattle.vx_cells.specs.Maps.{MapData, cell_on}
use Rattle.vx_power.specs.Signals.{is_active}

-- where the piston stands, which way it faces, whether it pushes or pulls, and the cells that this
-- takes, in order, its own first
pub record Moving : Type 0 where
  pub at : Pos
  pub facing : Dir
  pub push : Bool
  pub cells : List Pos

-- how many cells a push moves at most
abbrev pub most_pushed : ℕ
most_pushed = MAX_PUSHED

-- how many cells a move takes at most: the piston, what it pushes, and the end of the row
abbrev pub most_cells : ℕ
most_cells = MAX_CELLS

-- a row goes on behind a cell that is pushed; one that is empty or breaks ends it; one that stays
-- stops it
abbrev pub row_at : Pos → Mobility → Option (List Pos) → Option (List Pos)
row_at p Moves rest = option_map (λ ps. p ∷ ps) rest
row_at p Empty rest = Some (p ∷ [])
row_at p Breaks rest = Some (p ∷ [])
row_at p Stays rest = None

-- the cells that a push in this direction takes from p on, if there are at most so many: none
-- where the row is longer, or leads out of the world
unfoldable pub row : MapData → Dir → ℕ → Pos → Option (List Pos)
row m d zero p = None
row m d (suc n) p =
    if is_inside m.sizes p
    then row_at p (mobility_of (cell_on m p)) (row m d n (neighbor p d))
    else None

-- the position, where the world has it
abbrev pub if_inside : MapData → Pos → List Pos
if_inside m p = if is_inside m.sizes p then p ∷ [] else []

-- a sticky piston pulls what stands behind its head, if that moves
unfoldable pub pulled : MapData → Dir → Bool → Pos → List Pos
pulled m d false p = []
pulled m d true p =
    if is_inside m.sizes p
    then (if is_moved (mobility_of (cell_on m p)) then p ∷ [] else [])
    else []
  where
    is_moved : Mobility → Bool
    is_moved Moves = true
    is_moved _ = false

-- a piston that pushes takes its own cell, what it pushes and the end of the row
unfoldable pub pushing : MapData → Dir → Pos → Option Moving
pushing m d p =
    option_map (λ ps. record { at = p; facing = d; push = true; cells = p ∷ ps })
    (row m d (most_pushed + 1) (neighbor p d))

-- one that draws back takes its own cell, that of its head, and what it pulls
unfoldable pub drawing : MapData → Dir → Bool → Pos → Moving
drawing m d sticky p = record {
  at = p;
  facing = d;
  push = false;
  cells = p ∷ (if_inside m (neighbor p d) ++ pulled m d sticky (neighbor (neighbor p d) d));
}

-- what a piston would do: pushes where it is in and active, draws back where it is out and not
abbrev pub move_of : MapData → (Pos → ℕ) → Pos → Cell → Option Moving
move_of m level p (Piston d sticky false) =
    if is_active (cell_on m) level (Some d) p then pushing m d p else None
move_of m level p (Piston d sticky true) =
    if is_active (cell_on m) level (Some d) p then None else Some (drawing m d sticky p)
move_of m level p _ = None

-- the move of what stands at p, if it is a piston that would make one
unfoldable pub candidate : MapData → (Pos → ℕ) → Pos → Option Moving
candidate m level p = move_of m level p (cell_on m p)

-- a piston would move, if what stands before it lets it: it is in and active, or out and not
abbrev pub restless_as : (Pos → Cell) → (Pos → ℕ) → Pos → Cell → Bool
restless_as w level p (Piston d sticky false) = is_active w level (Some d) p
restless_as w level p (Piston d sticky true) = not (is_active w level (Some d) p)
restless_as w level p _ = false

unfoldable pub is_restless : (Pos → Cell) → (Pos → ℕ) → Pos → Bool
is_restless w level p = restless_as w level p (w p)
