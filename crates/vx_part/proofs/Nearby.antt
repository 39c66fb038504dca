-- Levels that are told near a sector are all that its next parts read.
use Rattle.std.proofs.Common.{◌≡◌, ℕ, zero, suc, ◌+◌, ◌<◌, ◌≤◌, true, Some, if◌then◌else◌, None, refl, ap, ◌∙◌, arith}
use Rattle.std.proofs.lemmas.Int.{ints}
use Rattle.vx_geom.specs.declared.pos.Pos.{Pos}
use Rattle.vx_geom.specs.Neighbor.{neighbor}
use Rattle.vx_geom.specs.Places.{position_in_sector, positions_from, positions}
use Rattle.vx_geom.specs.Sectors.{InSector}
use Rattle.vx_geom.specs.Sizes.{Sizes, AreSizes, sector_count, sector_cells, sector_of}
use Rattle.vx_geom.proofs.Places.{indices_are_places}
use Rattle.vx_geom.proofs.SectorLemmas.{held_at, in_sector}
use Rattle.vx_cells.specs.Maps.{MapData, cell_on}
use Rattle.vx_cells.specs.SameCells.{same_cell}
use Rattle.vx_power.specs.Laws.{dust_level}
use Rattle.vx_power.specs.Levels.{is_in, columns_around, AreLevels}
use Rattle.vx_power.specs.Local.{shown}
use Rattle.vx_power.proofs.Around.{itself, step_off, wider, in_columns}
use Rattle.vx_power.proofs.Local.{Near, builds_from, each_near, here, near_from, power_near}
use Rattle.vx_part.specs.Changes.{change_at, before, changes}
use Rattle.vx_part.specs.Parts.{next_part}
use Rattle.vx_part.proofs.Reading.{part_same}

-- a position of a sector lies in its columns
lies_there : (v : Sizes) (k : ℕ) (p : Pos) → AreSizes v → sector_of v p ≡ Some k
    → is_in (columns_around v k 0) p ≡ true
lies_there v k p sizes held =
    let box : InSector v k p = (in_sector v p k sizes (held_at v p k sizes held)).1 in
    in_columns (columns_around v k 0) p (record {
      west = omega (arith, ints, box.west);
      east = omega (arith, ints, box.east);
      north = omega (arith, ints, box.north);
      south = omega (arith, ints, box.south);
    })

module _ (m : MapData) (k : ℕ) (level : Pos → ℕ) (levels : AreLevels m k level) where
  -- so many columns off the sector, levels are right for so many steps more
  right : (n off : ℕ) (p : Pos) → off + n ≤ 2 → is_in (columns_around m.sizes k off) p ≡ true
      → Near n p level (dust_level (cell_on m))
  right zero off p few lies = levels p (wider m.sizes k off 0 2 p p (omega (arith, few)) (itself p) lies)
  right (suc n) off p few lies = (
    right n off p (omega (arith, few)) lies,
    λ d. right n (off + 1) (neighbor p d) (omega (arith, few))
        (wider m.sizes k off 1 (off + 1) p (neighbor p d) (omega arith) (step_off 0 p p d (itself p)) lies),
  )

  -- a next part by them is that by the levels of the rules
  same_part : (p : Pos) → is_in (columns_around m.sizes k 0) p ≡ true
      → next_part (cell_on m) level p ≡ next_part (cell_on m) (dust_level (cell_on m)) p
  same_part p lies =
      let w = cell_on m in
      let near = right 2 0 p (omega arith) lies in
      part_same w w level (dust_level w) p (builds_from w w 4 p (λ q among. refl))
      (each_near w (λ q. shown (w q)) (λ q. shown (w q)) p (near_from (λ q. shown (w q)) (λ q. shown (w q)) 2 p (λ q among. refl)))
      (power_near w level (dust_level w) p near) refl (λ dust. here level (dust_level w) 2 p near)

  same_change : (p : Pos) → is_in (columns_around m.sizes k 0) p ≡ true
      → change_at (cell_on m) level p ≡ change_at (cell_on m) (dust_level (cell_on m)) p
  unfolding change_at
  same_change p lies =
      ap (λ c. if same_cell c (cell_on m p) then None else Some c) (same_part p lies)

  module _ (sizes : AreSizes m.sizes) (there : k < sector_count m.sizes) where
    same_from : (i n : ℕ) → i + n ≤ sector_cells m.sizes
        → changes (cell_on m) level (positions_from m.sizes k i n)
        ≡ changes (cell_on m) (dust_level (cell_on m)) (positions_from m.sizes k i n)
    same_from i zero fits = refl
    same_from i (suc n) fits =
        let p = position_in_sector m.sizes k i in
        let held = (indices_are_places m.sizes k sizes there).held i (omega (arith, fits)) in
        ap (λ c. before p c (changes (cell_on m) level (positions_from m.sizes k (suc i) n)))
        (same_change p (lies_there m.sizes k p sizes held))
        ∙ ap (before p (change_at (cell_on m) (dust_level (cell_on m)) p)) (same_from (suc i) n (omega (arith, fits)))

    -- and so are the changes of the sector
    pub same_changes : changes (cell_on m) level (positions m.sizes k)
        ≡ changes (cell_on m) (dust_level (cell_on m)) (positions m.sizes k)
    unfolding positions
    same_changes = same_from 0 (sector_cells m.sizes) (omega arith)
