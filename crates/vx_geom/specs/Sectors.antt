use Rattle.std.specs.Prelude.{ℕ, ◌≡◌, pos, ◌+◌, ◌*◌, ◌/◌, ◌%◌, ◌<◌, ◌≤ℤ◌, ◌<ℤ◌, ◌↔◌, Some}
use Rattle.vx_geom.specs.declared.pos.Pos.{Pos}
use Rattle.vx_geom.specs.Sizes.{Sizes, AreSizes, span, sector_count, sector_of, index_in_sector}

-- the position lies in the box of sector k: the column of sectors k % sx, the row k / sx, and any
-- height
pub record InSector (v : Sizes) (k : ℕ) (p : Pos) : Type 0 where
  pub west : pos (span v * (k % v.sx)) ≤ℤ p.x
  pub east : p.x <ℤ pos (span v * (k % v.sx + 1))
  pub north : pos (span v * (k / v.sx)) ≤ℤ p.z
  pub south : p.z <ℤ pos (span v * (k / v.sx + 1))
  pub bottom : pos 0 ≤ℤ p.y
  pub top : p.y <ℤ pos v.h

-- a position is of one sector at most, the one in whose box it lies
abbrev pub SectorsDivide : Type 0
SectorsDivide = (v : Sizes) (p : Pos) (k : ℕ) → AreSizes v
    → (sector_of v p ≡ Some k) ↔ ((k < sector_count v) × InSector v k p)

-- two positions of one sector have two indices there
abbrev pub IndicesDiffer : Type 0
IndicesDiffer = (v : Sizes) (p q : Pos) (k : ℕ) → AreSizes v
    → sector_of v p ≡ Some k → sector_of v q ≡ Some k
    → index_in_sector v p ≡ index_in_sector v q → p ≡ q
