-- The components of machines in a sector, in order.
use Rattle.std.specs.Prelude.{◌≡◌, ℕ, ◌+◌, ◌%◌, pos, Bool, true, false, ◌&&◌, nat_lt, List, Option, Some, None}
use Rattle.std.specs.List.{filter}
use Rattle.vx_block.specs.Components.{is_device, is_component}
use Rattle.vx_geom.specs.declared.pos.Pos.{Pos}
use Rattle.vx_geom.specs.Places.{positions}
use Rattle.vx_geom.specs.Sizes.{index_in_sector}
use Rattle.vx_marks.specs.Marks.{is_set, is_marked}
use Rattle.vx_marks.specs.declared.page.TheConstants.{PAGE}
use Rattle.vx_cells.specs.Maps.{MapData, cell_on}
use Rattle.vx_cells.specs.SectorCells.{SectorCells, holds, cell_at}

-- the position in a column of a row of a layer
abbrev pub place : ℕ → ℕ → ℕ → Pos
place x y z = record { y = pos y; z = pos z; x = pos x }

-- the positions of a sector where a component stands
unfoldable pub components_of : SectorCells → List Pos
components_of c = filter (λ p. is_component (cell_at c p)) (positions c.bounds c.sector)

-- those where a device stands
unfoldable pub devices_of : SectorCells → List Pos
devices_of c = filter (λ p. is_device (cell_at c p)) (positions c.bounds c.sector)

-- where a component stands in a sector of a map, and where a device does
unfoldable pub components_on : MapData → ℕ → List Pos
components_on m k = filter (λ p. is_component (cell_on m p)) (positions m.sizes k)

unfoldable pub devices_on : MapData → ℕ → List Pos
devices_on m k = filter (λ p. is_device (cell_on m p)) (positions m.sizes k)

-- in which of so many columns of a row of a layer, from one on, stands what passes a test: a bit for
-- each
abbrev pub AreInRow : (Pos → Bool) → ℕ → ℕ → ℕ → ℕ → ℕ → Type 0
AreInRow test x y z count bits =
    (k : ℕ) → is_set bits k ≡ (nat_lt k count && test (place (x + k) y z))

-- marks in a page, by the indices of a sector, tell where in a layer of it stands what passes a test;
-- without a page nothing does
abbrev pub AreInLayer : (Pos → Bool) → SectorCells → ℕ → Option (List ℕ) → Type 0
AreInLayer test c y None = (p : Pos) → holds c p ≡ true → p.y ≡ pos y → test p ≡ false
AreInLayer test c y (Some page) = (p : Pos) → holds c p ≡ true → p.y ≡ pos y
    → test p ≡ is_marked page (index_in_sector c.bounds p % PAGE)
