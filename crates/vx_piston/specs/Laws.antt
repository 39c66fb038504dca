-- What holds of whatever a piston would move.
use Rattle.std.specs.Prelude.{◌≡◌, ℕ, zero, suc, ◌≤◌, true, false, List, [], ◌∷◌, ◌++◌, ◌⊎◌, length, slice_get, Some, None}
use Rattle.vx_geom.specs.declared.dir.Dir.{Dir}
use Rattle.vx_geom.specs.declared.pos.Pos.{Pos}
use Rattle.vx_geom.specs.Neighbor.{neighbor}
use Rattle.vx_geom.specs.Sizes.{is_inside}
use Rattle.vx_block.specs.declared.cell.Cell.{Cell}
use Rattle.vx_block.specs.declared.mobility.Mobility.TheVariants.{Empty, Moves, Breaks}
use Rattle.vx_block.specs.Mobilities.{mobility_of}
use Rattle.vx_cells.specs.Maps.{MapData, cell_on}
use Rattle.vx_power.specs.Local.{within_steps}
use Rattle.vx_power.specs.Turning.{BuiltAlike, ShowHeeded, PowerHeeded}
use Rattle.vx_power.specs.Walks.{IsAmong}
use Rattle.vx_piston.specs.Moves.{Moving, most_cells, most_pushed, candidate, is_restless}

-- the position so many steps from p in that direction
abbrev pub steps : Dir → ℕ → Pos → Pos
steps d zero p = p
steps d (suc n) p = steps d n (neighbor p d)

-- P holds of each move that some piston would make
abbrev pub OfCandidates : (MapData → Pos → Moving → Type 0) → Type 0
OfCandidates P = (m : MapData) (level : Pos → ℕ) (p : Pos) (move : Moving)
    → candidate m level p ≡ Some move → P m p move

-- it is the move of the piston that stands there, and takes its own cell first
abbrev pub BeginsWithPiston : MapData → Pos → Moving → Type 0
BeginsWithPiston m p move = (move.at ≡ p) × (rest : List Pos) × (move.cells ≡ p ∷ rest)

-- it takes at most so many cells
abbrev pub TakesFewCells : MapData → Pos → Moving → Type 0
TakesFewCells m p move = length move.cells ≤ most_cells

-- a push takes its piston's cell, then at most twelve that move, then one that is empty or breaks
pub record IsPush (m : MapData) (p : Pos) (move : Moving) : Type 0 where
  pub pushed : List Pos
  pub last : Pos
  pub cells : move.cells ≡ p ∷ (pushed ++ last ∷ [])
  pub few : length pushed ≤ most_pushed
  pub each : (q : Pos) → IsAmong pushed q → mobility_of (cell_on m q) ≡ Moves
  pub end : (mobility_of (cell_on m last) ≡ Empty) ⊎ (mobility_of (cell_on m last) ≡ Breaks)

abbrev pub PushesFewCells : MapData → Pos → Moving → Type 0
PushesFewCells m p move = move.push ≡ true → IsPush m p move

-- it takes cells of the world
abbrev pub StaysInside : MapData → Pos → Moving → Type 0
StaysInside m p move = (q : Pos) → IsAmong move.cells q → is_inside m.sizes q ≡ true

-- each cell that it takes lies as many steps before the piston as its number tells
abbrev pub LiesInLine : MapData → Pos → Moving → Type 0
LiesInLine m p move = (n : ℕ) (q : Pos) → slice_get move.cells n ≡ Some q
    → q ≡ steps move.facing n p

-- it takes no cell twice
abbrev pub TakesEachOnce : MapData → Pos → Moving → Type 0
TakesEachOnce m p move = (i j : ℕ) (q : Pos)
    → slice_get move.cells i ≡ Some q → slice_get move.cells j ≡ Some q → i ≡ j

-- whether a piston is restless is decided by its own cell, by how the cells that four steps lead to
-- are built, and of those that it heeds by what they show, and by which dust has power
abbrev pub RestlessHeeds : Type 0
RestlessHeeds = (w v : Pos → Cell) (a b : Pos → ℕ) (p : Pos)
    → BuiltAlike (within_steps 4 p) w v → w p ≡ v p → ShowHeeded w v p → PowerHeeded w a b p
    → is_restless w a p ≡ is_restless v b p

-- no other piston moves
abbrev pub OthersStay : Type 0
OthersStay = (m : MapData) (level : Pos → ℕ) (p : Pos)
    → is_restless (cell_on m) level p ≡ false → candidate m level p ≡ None
