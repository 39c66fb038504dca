-- What a tick is to what stands at each position.
use Rattle.std.specs.Prelude.{◌≡◌, ℕ, false, List, slice_get, Some}
use Rattle.vx_geom.specs.declared.pos.Pos.{Pos}
use Rattle.vx_block.specs.declared.cell.Cell.{Cell}
use Rattle.vx_cells.specs.MapLaws.{block_on, IsFilled}
use Rattle.vx_cells.specs.Maps.{MapData, cell_on}
use Rattle.vx_cells.specs.SectorCells.{placed}
use Rattle.vx_cells.specs.Wholes.{IsMap}
use Rattle.vx_power.specs.Laws.{dust_level}
use Rattle.vx_power.specs.Levels.{has}
use Rattle.vx_power.specs.Walks.{IsAmong}
use Rattle.vx_part.specs.Parts.{next_part}
use Rattle.vx_piston.specs.Moves.{Moving, candidate}
use Rattle.vx_region.specs.Regions.{Regions}
use Rattle.vx_cause.specs.Laws.{IsMade}
use Rattle.vx_tick.specs.declared.fate.Fate.{Fate}
use Rattle.vx_tick.specs.Ticks.{advanced, moved_cells, fates_on, stepped, IsTick}

-- before any move is made, each component has become its next part, by the cells and signals with
-- which the tick begins, and all else is as it was
abbrev pub PartsBecomeNext : Type 0
PartsBecomeNext = (m : MapData) (p : Pos)
    → IsFilled m → cell_on (advanced m) p ≡ next_part (cell_on m) (dust_level (cell_on m)) p

-- where that is the cell that stood there, its slots are as they were, too
abbrev pub UnchangedStay : Type 0
UnchangedStay = (m : MapData) (p : Pos) → IsFilled m
    → next_part (cell_on m) (dust_level (cell_on m)) p ≡ cell_on m p
    → block_on (advanced m) p ≡ block_on m p

-- P holds of each tick of a map with something at each place
abbrev pub OfTicks : ((rs : Regions) (m next : MapData) (fates : List (Pos × Fate))
    → IsTick rs m next fates → Type 0) → Type 0
OfTicks P = (rs : Regions) (m next : MapData) (fates : List (Pos × Fate))
    (tick : IsTick rs m next fates) → IsFilled m → P rs m next fates tick

-- the world stays as large, with something at each place
abbrev pub StaysFilled : (rs : Regions) (m next : MapData) (fates : List (Pos × Fate))
    → IsTick rs m next fates → Type 0
StaysFilled rs m next fates tick = IsFilled next × (next.sizes ≡ m.sizes)

-- each of its moves is what the piston there asks for as the tick begins
abbrev pub MovesAreAsked : (rs : Regions) (m next : MapData) (fates : List (Pos × Fate))
    → IsTick rs m next fates → Type 0
MovesAreAsked rs m next fates tick = (move : Moving) → IsAmong tick.moves move
    → candidate m (dust_level (cell_on m)) move.at ≡ Some move

-- and each that a piston asks for is one of its moves
abbrev pub AskedAreMoves : (rs : Regions) (m next : MapData) (fates : List (Pos × Fate))
    → IsTick rs m next fates → Type 0
AskedAreMoves rs m next fates tick = (move : Moving)
    → candidate m (dust_level (cell_on m)) move.at ≡ Some move → IsAmong tick.moves move

-- where no move that is made takes a cell, there stands what the parts have become
abbrev pub OthersStay : (rs : Regions) (m next : MapData) (fates : List (Pos × Fate))
    → IsTick rs m next fates → Type 0
OthersStay rs m next fates tick = (p : Pos)
    → ((move : Moving) → IsMade rs tick.moves move → has move.cells p ≡ false)
    → block_on next p ≡ block_on (advanced m) p

-- in each cell that a move takes stands, where it is made, what it puts there
abbrev pub MadeArePut : (rs : Regions) (m next : MapData) (fates : List (Pos × Fate))
    → IsTick rs m next fates → Type 0
MadeArePut rs m next fates tick = (move : Moving) (n : ℕ) (p : Pos) (cell : Cell)
    → IsMade rs tick.moves move → slice_get move.cells n ≡ Some p
    → slice_get (moved_cells (cell_on (advanced m)) move) n ≡ Some cell
    → block_on next p ≡ placed cell

-- a tick of a map is the one that is stepped, fates and all
abbrev pub TickIsStepped : Type 0
TickIsStepped = (rs : Regions) (m next : MapData) (fates : List (Pos × Fate))
    → IsTick rs m next fates → (next ≡ stepped rs m) × (fates ≡ fates_on rs m)

-- and that is a tick
abbrev pub SteppedIsTick : Type 0
SteppedIsTick = (rs : Regions) (m : MapData) → IsTick rs m (stepped rs m) (fates_on rs m)

-- which leaves each sector in its place, and the world as large
abbrev pub StepsKeepMaps : Type 0
StepsKeepMaps = (rs : Regions) (m : MapData) → IsMap m
    → IsMap (stepped rs m) × ((stepped rs m).sizes ≡ m.sizes)
