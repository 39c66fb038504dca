-- Cells put down on a map keep each sector in its place.
use Rattle.std.proofs.Common.{◌≡◌, ℕ, Bool, true, false, List, [], ◌∷◌, set, slice_get, slice_set, Option, Some, None, unwrap_or, if◌then◌else◌, refl, sym, ap, ◌∙◌, subst}
use Rattle.std.specs.Option.{option_and_then}
use Rattle.std.proofs.lemmas.List.{length-set}
use Rattle.vx_block.specs.declared.cell.Cell.{Cell}
use Rattle.vx_geom.specs.declared.pos.Pos.{Pos}
use Rattle.vx_geom.specs.Sizes.{Sizes, AreSizes, sector_count, sector_of}
use Rattle.vx_cells.specs.Maps.{MapData, AreSectors}
use Rattle.vx_cells.specs.SectorCells.{SectorCells, holds, with_block, with_cell}
use Rattle.vx_cells.specs.Wholes.{bare, set_in, with_cell_on, with_cells_on, IsMap}
use Rattle.vx_cells.proofs.Placed.{placed_again, airs_count, airs_placed}

-- another sector in the place of one, with the same number
pub again : (sizes : Sizes) (cs : List SectorCells) (k : ℕ) (c d : SectorCells) → AreSectors sizes cs → slice_get cs k ≡ Some c
    → d.bounds ≡ c.bounds → d.sector ≡ c.sector → AreSectors sizes (set cs k d)
again sizes cs k c d are found bounds sector = record {
  valid = are.valid;
  all = length-set cs k d ∙ are.all;
  each = placed_again sizes 0 k cs c d are.each found bounds sector;
}

-- nothing but air has each sector in its place
pub air_is_map : (sizes : Sizes) → AreSizes sizes → IsMap (bare sizes)
air_is_map sizes valid = record { valid = valid; all = airs_count sizes (sector_count sizes); each = airs_placed sizes (sector_count sizes) }

-- a cell that is set keeps the sectors in their places
module _ (m next : MapData) (p : Pos) (cell : Cell) (whole : IsMap m) where
  set_whole : (k : ℕ) (c : Option SectorCells) → slice_get m.sectors k ≡ c → set_in m p cell k c ≡ Some next → IsMap next
  unfolding with_block
  set_whole k None found made = cc
  set_whole k (Some c) found made = by (holds c p) made
    where
      by : (b : Bool) → (if b then Some (record m { sectors = set m.sectors k (with_cell c p cell) }) else None) ≡ Some next → IsMap next
      by false made = cc
      by true made =
          let same : record m { sectors = set m.sectors k (with_cell c p cell) } ≡ next = cc in
          subst IsMap same (again m.sizes m.sectors k c (with_cell c p cell) whole found refl refl)

  pub cell_keeps_map : with_cell_on m p cell ≡ Some next → IsMap next
  unfolding with_cell_on
  cell_keeps_map made = by (sector_of m.sizes p) made
    where
      by : (k : Option ℕ) → option_and_then (λ k. set_in m p cell k (slice_get m.sectors k)) k ≡ Some next → IsMap next
      by None made = cc
      by (Some k) made = set_whole k (slice_get m.sectors k) refl made

-- a cell is set in the sector that holds its position
pub cell_is_set : (m : MapData) (p : Pos) (cell : Cell) (k : ℕ) (c d : SectorCells) → sector_of m.sizes p ≡ Some k → slice_get m.sectors k ≡ Some c
    → holds c p ≡ true → d ≡ with_cell c p cell → with_cell_on m p cell ≡ Some (record m { sectors = set m.sectors k d })
unfolding with_cell_on
cell_is_set m p cell k c d found there held made =
    ap (option_and_then (λ k. set_in m p cell k (slice_get m.sectors k))) found
    ∙ ap (set_in m p cell k) there
    ∙ ap (λ b. if b then Some (record m { sectors = set m.sectors k (with_cell c p cell) }) else None) held
    ∙ ap (λ d. Some (record m { sectors = set m.sectors k d })) (sym made)

-- so the sectors stay in their places, and the world as large, where a cell is put down if it lies
-- inside
one_whole : (m : MapData) (q : Pos) (cell : Cell) → IsMap m
    → IsMap (unwrap_or (with_cell_on m q cell) m) × ((unwrap_or (with_cell_on m q cell) m).sizes ≡ m.sizes)
unfolding with_cell_on
one_whole m q cell whole = by (with_cell_on m q cell) refl
  where
    in_sector : (k : ℕ) (c : Option SectorCells) (next : MapData) → set_in m q cell k c ≡ Some next
        → next.sizes ≡ m.sizes
    in_sector k None next made = cc
    in_sector k (Some c) next made = held (holds c q) made
      where
        held : (b : Bool)
            → (if b then Some (record m { sectors = slice_set m.sectors k (with_cell c q cell) }) else None)
            ≡ Some next → next.sizes ≡ m.sizes
        held true made =
            let same : record m { sectors = slice_set m.sectors k (with_cell c q cell) } ≡ next = cc in
            ap (λ n. n.sizes) (sym same)
        held false made = cc

    of_number : (k : Option ℕ) (next : MapData)
        → option_and_then (λ k. set_in m q cell k (slice_get m.sectors k)) k ≡ Some next
        → next.sizes ≡ m.sizes
    of_number None next made = cc
    of_number (Some k) next made = in_sector k (slice_get m.sectors k) next made

    by : (o : Option MapData) → with_cell_on m q cell ≡ o
        → IsMap (unwrap_or o m) × ((unwrap_or o m).sizes ≡ m.sizes)
    by None made = (whole, refl)
    by (Some next) made =
        (cell_keeps_map m next q cell whole made, of_number (sector_of m.sizes q) next made)

-- and where several are
pub puts_whole : (m : MapData) (puts : List (Pos × Cell)) → IsMap m
    → IsMap (with_cells_on m puts) × ((with_cells_on m puts).sizes ≡ m.sizes)
puts_whole m [] whole = (whole, refl)
puts_whole m (put ∷ puts) whole =
    let one = one_whole m put.0 put.1 whole in
    let rest = puts_whole (unwrap_or (with_cell_on m put.0 put.1) m) puts one.0 in
    (rest.0, rest.1 ∙ one.1)
