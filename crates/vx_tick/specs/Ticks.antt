-- What a tick makes of a map.
use Rattle.std.specs.Prelude.{◌≡◌, ℕ, zero, suc, Bool, true, false, if◌then◌else◌, List, [], ◌∷◌, ◌++◌, map, drop, Option, Some, None}
use Rattle.std.specs.List.{zip}
use Rattle.std.specs.List.Sorted.{IsPermutation, IsSortedByKey}
use Rattle.vx_geom.specs.declared.pos.Pos.{Pos}
use Rattle.vx_geom.specs.Order.{comes_before, compared}
use Rattle.vx_geom.specs.Places.{positions}
use Rattle.vx_geom.specs.Sizes.{sector_count}
use Rattle.vx_block.specs.declared.cell.Cell.{Cell}
use Rattle.vx_block.specs.declared.cell.Cell.TheVariants.{Air, Piston, Head}
use Rattle.vx_cells.specs.Maps.{MapData, cell_on}
use Rattle.vx_cells.specs.Wholes.{with_cells_on}
use Rattle.vx_power.specs.Laws.{dust_level}
use Rattle.vx_part.specs.Changes.{changes}
use Rattle.vx_piston.specs.Moves.{Moving, candidate}
use Rattle.vx_region.specs.Regions.{Regions}
use Rattle.vx_tick.specs.declared.fate.Fate.{Fate}
use Rattle.vx_tick.specs.declared.fate.Fate.TheVariants.{Moved}
use Rattle.vx_tick.specs.Fates.{AreFates, fates_of}

-- the move of a piston, where it asks for one, before others
abbrev pub asked_before : Option Moving → List Moving → List Moving
asked_before None moves = moves
asked_before (Some m) moves = m ∷ moves

-- the moves that pistons at these positions ask for, in their order
abbrev pub asked : MapData → (Pos → ℕ) → List Pos → List Moving
asked m level [] = []
asked m level (p ∷ ps) = asked_before (candidate m level p) (asked m level ps)

-- those of the first n sectors
abbrev pub asked_up_to : MapData → ℕ → List Moving
asked_up_to m zero = []
asked_up_to m (suc n) =
    asked_up_to m n ++ asked m (dust_level (cell_on m)) (positions m.sizes n)

-- these are the given moves, no more and no fewer, in the order of their pistons' positions
pub record AreInOrder (given moves : List Moving) : Type 0 where
  pub all : IsPermutation given moves
  pub ordered : IsSortedByKey (λ (move : Moving). move.at) compared moves

-- the moves that all pistons of a map ask for, in the order of the pistons' positions
abbrev pub AreMoves : MapData → List Moving → Type 0
AreMoves m moves = AreInOrder (asked_up_to m (sector_count m.sizes)) moves

-- the next parts in the first n sectors, where they are other cells
abbrev pub changed_up_to : MapData → ℕ → List (Pos × Cell)
changed_up_to m zero = []
changed_up_to m (suc n) =
    changed_up_to m n ++ changes (cell_on m) (dust_level (cell_on m)) (positions m.sizes n)

-- the map when each component has become its next part
abbrev pub advanced : MapData → MapData
advanced m = with_cells_on m (changed_up_to m (sector_count m.sizes))

-- a piston, out or in
abbrev pub piston_as : Bool → Cell → Cell
piston_as out (Piston d sticky extended) = Piston d sticky out
piston_as out other = other

-- its head
abbrev pub head_of : Cell → Cell
head_of (Piston d sticky extended) = Head d sticky
head_of other = other

-- what stands in the cells of a push once it is made: the piston, which is out, its head, and each
-- pushed cell one further; what breaks at the end is gone
abbrev pub pushed : (Pos → Cell) → Pos → List Pos → List Cell
pushed w q ps = piston_as true (w q) ∷ (head_of (w q) ∷ map w (drop 1 ps))

-- what stands in those of a piston that drew back: the piston, which is in, what it pulled, and air
abbrev pub drawn : (Pos → Cell) → Pos → List Pos → List Cell
drawn w q ps = piston_as false (w q) ∷ (map w (drop 2 ps) ++ (Air ∷ []))

-- what stands in the cells of a move once it is made
abbrev pub moved_cells : (Pos → Cell) → Moving → List Cell
moved_cells w m = if m.push then pushed w m.at m.cells else drawn w m.at m.cells

-- the cells that a move puts down
abbrev pub effects : (Pos → Cell) → Moving → List (Pos × Cell)
effects w m = zip m.cells (moved_cells w m)

-- those of a move with this fate: one that is not made puts nothing down
abbrev pub effects_by : (Pos → Cell) → Moving → Fate → List (Pos × Cell)
effects_by w m Moved = effects w m
effects_by w m fate = []

-- those of all moves with these fates
abbrev pub put_down : (Pos → Cell) → List Moving → List (Pos × Fate) → List (Pos × Cell)
put_down w [] fates = []
put_down w moves [] = []
put_down w (m ∷ moves) (told ∷ fates) = effects_by w m told.1 ++ put_down w moves fates

-- a tick under these regions: each component becomes its next part, and then the moves that are
-- made put their cells down; what they move has become its next part before
pub record IsTick (rs : Regions) (m next : MapData) (fates : List (Pos × Fate)) : Type 0 where
  pub moves : List Moving
  pub asked : AreMoves m moves
  pub told : AreFates rs moves moves fates
  pub after : next ≡ with_cells_on (advanced m) (put_down (cell_on (advanced m)) moves fates)

-- a move among others in the order of positions, and all in that order
abbrev pub inserted : Moving → List Moving → List Moving
inserted m [] = m ∷ []
inserted m (n ∷ moves) =
    if comes_before n.at m.at then n ∷ inserted m moves else m ∷ n ∷ moves

abbrev pub ordered : List Moving → List Moving
ordered [] = []
ordered (m ∷ moves) = inserted m (ordered moves)

-- the moves that all pistons of a map ask for, in the order of the pistons' positions
abbrev pub moves_of : MapData → List Moving
moves_of m = ordered (asked_up_to m (sector_count m.sizes))

-- what becomes of the moves of a map, in their order
unfoldable pub fates_on : Regions → MapData → List (Pos × Fate)
fates_on rs m = fates_of rs (moves_of m) (moves_of m)

-- the map after a tick
unfoldable pub stepped : Regions → MapData → MapData
stepped rs m =
    with_cells_on (advanced m)
    (put_down (cell_on (advanced m)) (moves_of m) (fates_of rs (moves_of m) (moves_of m)))
