-- Columns and rows that lie in one sector.
use Rattle.std.specs.Prelude.{◌≡◌, ℕ, ◌+◌, ◌-◌, ◌*◌, ◌%◌, ◌<◌, ◌≤◌, Bool, List}
use Rattle.vx_geom.specs.declared.pos.Pos.{Pos}
use Rattle.vx_geom.specs.Sizes.{Sizes, span, sector_number, index_in_sector}
use Rattle.vx_cells.specs.Listed.{place}
use Rattle.vx_marks.specs.Marks.{is_marked}
use Rattle.vx_marks.specs.declared.page.TheConstants.{PAGE}
use Rattle.vx_places.specs.Around.{between_numbers, row_of, column_of}
use Rattle.vx_places.specs.declared.area.Area.{Area}

-- it passes a test, and lies in one of these columns and rows
abbrev pub in_area : (Pos → Bool) → Area → Pos → Bool
in_area test area =
    between_numbers column_of (between_numbers row_of test area.north area.south)
    area.west area.east

-- a column and a row are among them
pub record IsColumnOf (area : Area) (x z : ℕ) : Type 0 where
  pub west : area.west ≤ x
  pub east : x < area.east
  pub north : area.north ≤ z
  pub south : z < area.south

-- there are some, and where a world of this size has them they lie in one sector of it
pub record LiesInOne (v : Sizes) (area : Area) : Type 0 where
  pub wide : area.west < area.east
  pub long : area.north < area.south
  pub columns : area.west % span v + (area.east - area.west) ≤ span v
  pub rows : area.north % span v + (area.south - area.north) ≤ span v

-- and the world has them
pub record IsPart (v : Sizes) (area : Area) : Type 0 where
  pub one : LiesInOne v area
  pub last_column : area.east ≤ v.sx * span v
  pub last_row : area.south ≤ v.sz * span v

-- that sector has this number
abbrev pub IsSector : Sizes → Area → ℕ → Type 0
IsSector v area sector = sector ≡ sector_number v (place area.west 0 area.north)

-- the position has a mark in a page, by its index in its sector
abbrev pub marked_by : List ℕ → Sizes → Pos → Bool
marked_by page v q = is_marked page (index_in_sector v q % PAGE)
