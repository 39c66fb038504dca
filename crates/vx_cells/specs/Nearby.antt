-- What one sector has of all that lies close to a position.
use Rattle.std.specs.Prelude.{◌≡◌, ℕ, pos, ◌+◌, ◌-◌, ◌%◌, ◌<◌, ◌≤◌, ◌+ℤ◌, ◌-ℤ◌, ◌≤ℤ◌, true, unsigned_abs}
use Rattle.vx_geom.specs.declared.pos.Pos.{Pos}
use Rattle.vx_geom.specs.Sizes.{Sizes, span}
use Rattle.vx_cells.specs.Maps.{MapData, cell_on}
use Rattle.vx_cells.specs.SectorCells.{SectorCells, holds, cell_at}

-- q is at most one column, one layer and one row off p
pub record IsClose (p q : Pos) : Type 0 where
  pub west : (p.x -ℤ pos 1) ≤ℤ q.x
  pub east : q.x ≤ℤ (p.x +ℤ pos 1)
  pub under : (p.y -ℤ pos 1) ≤ℤ q.y
  pub over : q.y ≤ℤ (p.y +ℤ pos 1)
  pub north : (p.z -ℤ pos 1) ≤ℤ q.z
  pub south : q.z ≤ℤ (p.z +ℤ pos 1)

-- a sector of a map holds all that lies close to p, and has there what stands on the map; three
-- columns of it lie beside one another, from the one to the west of p on
pub record HasAround (m : MapData) (c : SectorCells) (p : Pos) : Type 0 where
  pub sizes : c.bounds ≡ m.sizes
  pub held : (q : Pos) → IsClose p q → holds c q ≡ true
  pub stands : (q : Pos) → IsClose p q → cell_at c q ≡ cell_on m q
  pub columns : (unsigned_abs p.x - 1) % span c.bounds + 3 ≤ span c.bounds

-- a column lies between two others of its sector, which is so wide
abbrev pub IsBetween : ℕ → ℕ → Type 0
IsBetween width column = (0 < column % width) × (column % width + 1 < width)

-- so do the columns and the rows of a position, and its layer between two others of the world
pub record IsAmid (v : Sizes) (p : Pos) : Type 0 where
  pub column : IsBetween (span v) (unsigned_abs p.x)
  pub row : IsBetween (span v) (unsigned_abs p.z)
  pub least : 0 < unsigned_abs p.y
  pub most : unsigned_abs p.y + 1 < v.h
