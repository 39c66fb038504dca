-- What stands in the cells of a move that was made, as the piston goes out or in.
use Rattle.std.specs.Prelude.{◌≡◌, ℕ, suc, Bool, true, false, List, length, slice_get, Some}
use Rattle.vx_geom.specs.declared.pos.Pos.{Pos}
use Rattle.vx_geom.specs.Neighbor.{neighbor}
use Rattle.vx_block.specs.declared.cell.Cell.{Cell}
use Rattle.vx_block.specs.declared.cell.Cell.TheVariants.{Air, Piston, Head}
use Rattle.vx_cells.specs.Maps.{MapData, cell_on}
use Rattle.vx_power.specs.Laws.{dust_level}
use Rattle.vx_part.specs.Parts.{next_part}
use Rattle.vx_piston.specs.Moves.{Moving}
use Rattle.vx_region.specs.Regions.{Regions}
use Rattle.vx_cause.specs.Laws.{IsMade}
use Rattle.vx_tick.specs.declared.fate.Fate.{Fate}
use Rattle.vx_tick.specs.Ticks.{IsTick}

-- what stands at a position as the tick begins, as its next part
abbrev pub next_on : MapData → Pos → Cell
next_on m p = next_part (cell_on m) (dust_level (cell_on m)) p

-- two cells that a move takes behind that of its piston, the second behind the first
abbrev pub AreInRow : Moving → Pos → Pos → Type 0
AreInRow move near far = (n : ℕ)
    × (slice_get move.cells (suc n) ≡ Some near) × (slice_get move.cells (suc (suc n)) ≡ Some far)

-- the last cell that a move takes, where that is not its piston's
abbrev pub IsLastInRow : Moving → Pos → Type 0
IsLastInRow move last = (n : ℕ)
    × (slice_get move.cells (suc n) ≡ Some last) × (length move.cells ≡ suc (suc n))

-- a piston that was in has pushed: it is out, its head stands before it, and each cell behind that
-- holds what stood one nearer, as its next part
pub record HasPushed (m next : MapData) (move : Moving) : Type 0 where
  pub sticky : Bool
  pub was : cell_on m move.at ≡ Piston move.facing sticky false
  pub piston : cell_on next move.at ≡ Piston move.facing sticky true
  pub head : cell_on next (neighbor move.at move.facing) ≡ Head move.facing sticky
  pub pushed : (near far : Pos) → AreInRow move near far → cell_on next far ≡ next_on m near

-- a piston that was out has drawn back: it is in, each cell before it holds what stood one further,
-- as its next part, and the last one is air
pub record HasDrawn (m next : MapData) (move : Moving) : Type 0 where
  pub sticky : Bool
  pub was : cell_on m move.at ≡ Piston move.facing sticky true
  pub piston : cell_on next move.at ≡ Piston move.facing sticky false
  pub pulled : (near far : Pos) → AreInRow move near far → cell_on next near ≡ next_on m far
  pub air : (last : Pos) → IsLastInRow move last → cell_on next last ≡ Air

-- each push that is made has pushed its cells
abbrev pub PushesPush : (rs : Regions) (m next : MapData) (fates : List (Pos × Fate))
    → IsTick rs m next fates → Type 0
PushesPush rs m next fates tick = (move : Moving)
    → IsMade rs tick.moves move → move.push ≡ true → HasPushed m next move

-- and each other move that is made has drawn its cells back
abbrev pub DrawsDraw : (rs : Regions) (m next : MapData) (fates : List (Pos × Fate))
    → IsTick rs m next fates → Type 0
DrawsDraw rs m next fates tick = (move : Moving)
    → IsMade rs tick.moves move → move.push ≡ false → HasDrawn m next move
