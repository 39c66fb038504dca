-- What a piston moves, from the side of the piston.
use Rattle.std.specs.Prelude.{◌≡◌, ℕ, zero, suc, ◌+◌, ◌<◌, ◌≤◌, Bool, true, false, not, ◌⊎◌, List, [], ◌∷◌, Some, None}
use Rattle.vx_geom.specs.declared.dir.Dir.{Dir}
use Rattle.vx_geom.specs.declared.pos.Pos.{Pos}
use Rattle.vx_geom.specs.Neighbor.{neighbor}
use Rattle.vx_geom.specs.Sizes.{is_inside}
use Rattle.vx_block.specs.declared.cell.Cell.{Cell}
use Rattle.vx_block.specs.declared.cell.Cell.TheVariants.{Piston}
use Rattle.vx_block.specs.declared.mobility.Mobility.{Mobility}
use Rattle.vx_block.specs.declared.mobility.Mobility.TheVariants.{Empty, Moves, Breaks, Stays}
use Rattle.vx_block.specs.Mobilities.{mobility_of}
use Rattle.vx_cells.specs.Maps.{MapData, cell_on}
use Rattle.vx_power.specs.Signals.{is_active}
use Rattle.vx_piston.specs.Laws.{steps}
use Rattle.vx_piston.specs.Moves.{Moving, most_pushed, most_cells, candidate, is_restless}
use Rattle.vx_machine_laws.specs.Exactly.{Exactly}

-- a push moves at most twelve cells
abbrev pub TwelveAtMost : Type 0
TwelveAtMost = most_pushed ≡ 12

-- a move takes at most two cells more: that of the piston, and the end of the row
abbrev pub TwoMoreAreTaken : Type 0
TwoMoreAreTaken = most_cells ≡ most_pushed + 2

-- a piston stands at p, in or out, and is active or not
pub record IsPiston (m : MapData) (level : Pos → ℕ) (p : Pos)
    (front : Dir) (sticky out active : Bool) : Type 0 where
  pub stands : cell_on m p ≡ Piston front sticky out
  pub powered : is_active (cell_on m) level (Some front) p ≡ active

-- what stands at p moves, stays, is empty or breaks
abbrev pub Does : MapData → Mobility → Pos → Type 0
Does m k p = mobility_of (cell_on m p) ≡ k

-- the first n cells from p on in that direction move
abbrev pub RowMoves : MapData → Dir → ℕ → Pos → Type 0
RowMoves m d n p = (k : ℕ) → k < n → Does m Moves (steps d k p)

-- so many positions one behind the other, from p on
abbrev pub in_line : Dir → ℕ → Pos → List Pos
in_line d zero p = []
in_line d (suc n) p = p ∷ in_line d n (neighbor p d)

-- the end of the row is inside the world, and is empty or breaks
abbrev pub IsOpen : MapData → Pos → Type 0
IsOpen m p = (is_inside m.sizes p ≡ true) × (Does m Empty p ⊎ Does m Breaks p)

-- the end of the row is outside the world, or stays
abbrev pub IsShut : MapData → Pos → Type 0
IsShut m p = (is_inside m.sizes p ≡ false) ⊎ Does m Stays p

-- a piston that is in and active pushes the cells before it that move, where these are at most
-- twelve and what stands behind them is empty or breaks: it takes its own cell, these and that one
abbrev pub OpenRowsArePushed : Type 0
OpenRowsArePushed = (m : MapData) (level : Pos → ℕ) (p : Pos) (front : Dir) (sticky : Bool) (n : ℕ)
    → IsPiston m level p front sticky false true
    → n ≤ most_pushed → RowMoves m front n (neighbor p front)
    → IsOpen m (steps front n (neighbor p front))
    → candidate m level p
    ≡ Some (record { at = p; facing = front; push = true; cells = in_line front (suc (suc n)) p })

-- it does not move where what stands behind them stays or lies outside the world
abbrev pub ShutRowsStay : Type 0
ShutRowsStay = (m : MapData) (level : Pos → ℕ) (p : Pos) (front : Dir) (sticky : Bool) (n : ℕ)
    → IsPiston m level p front sticky false true
    → n ≤ most_pushed → RowMoves m front n (neighbor p front)
    → IsShut m (steps front n (neighbor p front))
    → candidate m level p ≡ None

-- nor where more than twelve cells before it move
abbrev pub LongRowsStay : Type 0
LongRowsStay = (m : MapData) (level : Pos → ℕ) (p : Pos) (front : Dir) (sticky : Bool) (n : ℕ)
    → IsPiston m level p front sticky false true
    → most_pushed < n → RowMoves m front n (neighbor p front)
    → candidate m level p ≡ None

-- a draw takes its piston's cell, that of its head where the world has it, and exactly for a sticky
-- piston the cell behind, where the world has it and it moves
pub record IsDraw (m : MapData) (p : Pos) (front : Dir) (sticky : Bool) (move : Moving)
    : Type 0 where
  pub at : move.at ≡ p
  pub facing : move.facing ≡ front
  pub draws : move.push ≡ false
  pub outside : is_inside m.sizes (neighbor p front) ≡ false → move.cells ≡ in_line front 1 p
  pub pulls : is_inside m.sizes (neighbor p front) ≡ true
      → sticky ≡ true → is_inside m.sizes (steps front 2 p) ≡ true
      → Does m Moves (steps front 2 p) → move.cells ≡ in_line front 3 p
  pub leaves : is_inside m.sizes (neighbor p front) ≡ true
      → (sticky ≡ false) ⊎ ((is_inside m.sizes (steps front 2 p) ≡ false)
      ⊎ (Does m Moves (steps front 2 p) → ⊥))
      → move.cells ≡ in_line front 2 p

-- a piston that is out and not active always draws back
abbrev pub UnpoweredDraw : Type 0
UnpoweredDraw = (m : MapData) (level : Pos → ℕ) (p : Pos) (front : Dir) (sticky : Bool)
    → IsPiston m level p front sticky true false
    → (move : Moving) × (candidate m level p ≡ Some move) × IsDraw m p front sticky move

-- one that is in and not active, or out and active, does not move
abbrev pub SettledStay : Type 0
SettledStay = (m : MapData) (level : Pos → ℕ) (p : Pos) (front : Dir) (sticky as_is : Bool)
    → IsPiston m level p front sticky as_is as_is → candidate m level p ≡ None

-- and what is no piston does not
abbrev pub OthersStay : Type 0
OthersStay = (m : MapData) (level : Pos → ℕ) (p : Pos)
    → ((front : Dir) (sticky out : Bool) → cell_on m p ≡ Piston front sticky out → ⊥)
    → candidate m level p ≡ None

-- each move is that of the piston at its position: a push of one that is in and active, or a draw
-- of one that is out and not active
abbrev pub MovesArePistons : Type 0
MovesArePistons = (m : MapData) (level : Pos → ℕ) (p : Pos) (move : Moving)
    → candidate m level p ≡ Some move
    → (sticky : Bool)
    × (((move.push ≡ true) × IsPiston m level p move.facing sticky false true)
    ⊎ (IsPiston m level p move.facing sticky true false × IsDraw m p move.facing sticky move))

-- a piston is restless where it is in and active, or out and not active; nothing else is
abbrev pub RestlessAreThese : Type 0
RestlessAreThese = (w : Pos → Cell) (level : Pos → ℕ) (p : Pos)
    → Exactly (is_restless w level p)
    ((front : Dir) × (sticky : Bool) × (out : Bool)
    × (w p ≡ Piston front sticky out) × (is_active w level (Some front) p ≡ not out))
