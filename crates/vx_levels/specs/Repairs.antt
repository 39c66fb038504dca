-- What a repair is given, and what it leaves.
use Rattle.std.specs.Prelude.{◌≡◌, true, false, List}
use Rattle.vx_geom.specs.declared.pos.Pos.{Pos}
use Rattle.vx_block.specs.declared.cell.Cell.{Cell}
use Rattle.vx_block.specs.Components.{is_dust}
use Rattle.vx_levels.specs.Consistency.{IsConsistent, IsExactOn}
use Rattle.vx_levels.specs.Linked.{level_at, KnowsLinks}
use Rattle.vx_levels.specs.Pending.{PendingData, AreKept}
use Rattle.vx_power.specs.Laws.{dust_level}
use Rattle.vx_power.specs.Levels.{LevelTable, has}

-- but at these positions all dust has what it is told, the table has its links, and what is no dust
-- has no level
pub record IsRightBut (w : Pos → Cell) (table : LevelTable) (unsure : List Pos) : Type 0 where
  pub consistent : (p : Pos) → is_dust (w p) ≡ true → has unsure p ≡ false
      → IsConsistent w (level_at table) p
  pub linked : (p : Pos) → has unsure p ≡ false → KnowsLinks w table p
  pub empty : (p : Pos) → is_dust (w p) ≡ false → has unsure p ≡ false → level_at table p ≡ 0

-- each dust has its level, the table has its links, and what is no dust has no level
pub record IsRight (w : Pos → Cell) (table : LevelTable) : Type 0 where
  pub exact : IsExactOn w (level_at table)
  pub linked : (p : Pos) → KnowsLinks w table p
  pub empty : (p : Pos) → is_dust (w p) ≡ false → level_at table p ≡ 0

-- that is so of the dust at these positions, and nothing has a level that is no dust
pub record IsRightAt (w : Pos → Cell) (table : LevelTable) (done : List Pos) : Type 0 where
  pub exact : (p : Pos) → is_dust (w p) ≡ true → has done p ≡ true → level_at table p ≡ dust_level w p
  pub linked : (p : Pos) → has done p ≡ true → KnowsLinks w table p
  pub empty : (p : Pos) → is_dust (w p) ≡ false → level_at table p ≡ 0

-- levels changed at these positions alone
abbrev pub ChangesAt : List Pos → LevelTable → LevelTable → Type 0
ChangesAt put old new = (p : Pos) → has put p ≡ false → level_at new p ≡ level_at old p

-- dust lies at each of these positions
abbrev pub AreDust : (Pos → Cell) → List Pos → Type 0
AreDust w ps = (p : Pos) → has ps p ≡ true → is_dust (w p) ≡ true

-- while levels are made right: what is not pending is right, what is not unsure has its links, and
-- no level where no dust is, and what may fall or rise is dust
pub record IsUnderRepair (w : Pos → Cell) (table : LevelTable) (pending : PendingData) : Type 0 where
  pub kept : AreKept w (level_at table) pending
  pub linked : (p : Pos) → has pending.unsure p ≡ false → KnowsLinks w table p
  pub empty : (p : Pos) → is_dust (w p) ≡ false → has pending.unsure p ≡ false
      → level_at table p ≡ 0
  pub falling : AreDust w pending.falling
  pub rising : AreDust w pending.rising

-- more positions are listed, and at all others levels stayed
abbrev pub Follows : List Pos → LevelTable → List Pos → LevelTable → Type 0
Follows put old more new = (p : Pos) → has more p ≡ false
    → (has put p ≡ false) × (level_at new p ≡ level_at old p)
