-- Which levels are those of the map near a position.
use Rattle.std.specs.Prelude.{◌≡◌, ℕ}
use Rattle.vx_block.specs.declared.cell.Cell.{Cell}
use Rattle.vx_cells.specs.Maps.{MapData, cell_on}
use Rattle.vx_geom.specs.declared.pos.Pos.{Pos}
use Rattle.vx_power.specs.Laws.{dust_level}
use Rattle.vx_power.specs.Levels.{AreAllLevels}
use Rattle.vx_power.specs.Local.{AreLevelsNear, within_steps}
use Rattle.vx_power.specs.Walks.{IsAmong}

-- each position that so many steps lead to has the level of the map
abbrev pub EachIsRight : (Pos → Cell) → ℕ → Pos → (Pos → ℕ) → Type 0
EachIsRight w n p level = (q : Pos) → IsAmong (within_steps n p) q → level q ≡ dust_level w q

-- levels are right near a position exactly where each is
pub record IsTold (w : Pos → Cell) (n : ℕ) (p : Pos) (level : Pos → ℕ) : Type 0 where
  pub only : AreLevelsNear w n p level → EachIsRight w n p level
  pub all : EachIsRight w n p level → AreLevelsNear w n p level

abbrev pub LevelsNearAreThese : Type 0
LevelsNearAreThese = (w : Pos → Cell) (n : ℕ) (p : Pos) (level : Pos → ℕ) → IsTold w n p level

-- the levels of all dust of a map are right near every position
abbrev pub AllLevelsServe : Type 0
AllLevelsServe = (m : MapData) (level : Pos → ℕ) → AreAllLevels m level
    → (n : ℕ) (p : Pos) → AreLevelsNear (cell_on m) n p level
