-- What is read on a map after a cell was put down.
use Rattle.std.proofs.Common.{◌≡◌, ◌≢◌, ℕ, Bool, true, false, List, nat_eq, set, slice_get, Option, Some, None, is_some, if◌then◌else◌, refl, sym, ap, ◌∙◌, subst, arith}
use Rattle.std.specs.List.{All}
use Rattle.std.specs.Option.{option_and_then}
use Rattle.std.proofs.lemmas.Bool.{eqb-true, eq-eqb, false≢true}
use Rattle.std.proofs.lemmas.List.{length-set, length-replicate}
use Rattle.std.proofs.lemmas.List.Elements.{All-replicate, All-set}
use Rattle.std.proofs.lemmas.Option.{slice_get_within, get_or_from_slice_get}
use Rattle.vx_base.proofs.Lists.{item_there, set_found, set_beside}
use Rattle.vx_block.specs.declared.cell.Cell.{Cell}
use Rattle.vx_geom.specs.declared.pos.Pos.{Pos}
use Rattle.vx_geom.specs.Sizes.{AreSizes, is_inside, sector_number, sector_of}
use Rattle.vx_cells.specs.MapLaws.{block_in, block_on, IsFilled, CellOfBlock, PutInside, PutStaysFilled, PutCellIsRead, OthersStay}
use Rattle.vx_cells.specs.Maps.{MapData, sector_at, cell_in, cell_on}
use Rattle.vx_cells.specs.SectorCells.{SectorCells, IsBlock, IsSlot, IsWhole, slot_count, placed, holds, block_at, with_block, with_cell}
use Rattle.vx_cells.specs.Wholes.{set_in, with_cell_on}
use Rattle.vx_cells.proofs.CellLaws.{set_block_is_read, other_blocks_stay}
use Rattle.vx_cells.proofs.Indices.{numbered, number_below}
use Rattle.vx_cells.proofs.MapLemmas.{placed_at, is_held}
use Rattle.vx_cells.proofs.Setting.{cell_keeps_map, cell_is_set}

pub cell_of_block : CellOfBlock
unfolding block_on cell_on
cell_of_block m p = by (sector_at m.sectors (sector_of m.sizes p))
  where
    by : (c : Option SectorCells) → (block_in c p).cell ≡ cell_in c p
    by None = refl
    by (Some c) = refl

-- the cell was put down in a sector, the one that holds the position
record IsPut (m next : MapData) (p : Pos) (cell : Cell) : Type 0 where
  number : ℕ
  sector : SectorCells
  is_of : sector_of m.sizes p ≡ Some number
  there : slice_get m.sectors number ≡ Some sector
  held : holds sector p ≡ true
  made : next ≡ record m { sectors = set m.sectors number (with_cell sector p cell) }

module _ (m next : MapData) (p : Pos) (cell : Cell) where
  put_held : (k : ℕ) (c : SectorCells) (b : Bool) → sector_of m.sizes p ≡ Some k
      → slice_get m.sectors k ≡ Some c → holds c p ≡ b
      → (if b then Some (record m { sectors = set m.sectors k (with_cell c p cell) }) else None) ≡ Some next
      → IsPut m next p cell
  put_held k c false is there held made = cc
  put_held k c true is there held made =
      let same : record m { sectors = set m.sectors k (with_cell c p cell) } ≡ next = cc in
      record { number = k; sector = c; is_of = is; there = there; held = held; made = sym same }

  put_found : (k : ℕ) (c : Option SectorCells) → sector_of m.sizes p ≡ Some k
      → slice_get m.sectors k ≡ c → set_in m p cell k c ≡ Some next → IsPut m next p cell
  put_found k None is there made = cc
  put_found k (Some c) is there made = put_held k c (holds c p) is there refl made

  put_of : (k : Option ℕ) → sector_of m.sizes p ≡ k
      → option_and_then (λ k. set_in m p cell k (slice_get m.sectors k)) k ≡ Some next
      → IsPut m next p cell
  put_of None is made = cc
  put_of (Some k) is made = put_found k (slice_get m.sectors k) is refl made

  is_put : with_cell_on m p cell ≡ Some next → IsPut m next p cell
  unfolding with_cell_on
  is_put made = put_of (sector_of m.sizes p) refl made

-- each element of a list
at_each : {X : Type 0} (P : X → Type 0) (xs : List X) (i : ℕ) (x : X)
    → All P xs → slice_get xs i ≡ Some x → P x
at_each P xs i x each found =
    subst P (get_or_from_slice_get xs i x x found) (each i x (slice_get_within xs i x found))

-- a sector in which a cell was put down has something at each place
block_placed : (cell : Cell) → IsBlock (placed cell)
block_placed cell = record { slots = length-replicate (slot_count cell) None; each = All-replicate IsSlot (slot_count cell) None tt }

still_whole : (c : SectorCells) (p : Pos) (cell : Cell) → IsWhole c → IsWhole (with_cell c p cell)
unfolding with_block
still_whole c p cell whole = record {
  whole = length-set c.blocks _ (placed cell) ∙ whole.whole;
  each = All-set IsBlock c.blocks _ (placed cell) (block_placed cell) whole.each;
}

module _ (m next : MapData) (p : Pos) (cell : Cell) (filled : IsFilled m) (put : IsPut m next p cell) where
  sizes_stay : next.sizes ≡ m.sizes
  sizes_stay = ap (λ n. n.sizes) put.made

  whole : IsWhole put.sector
  whole = at_each IsWhole m.sectors put.number put.sector filled.each put.there

  all_whole : All IsWhole next.sectors
  all_whole =
      subst (λ (n : MapData). All IsWhole n.sectors) (sym put.made)
      (All-set IsWhole m.sectors put.number (with_cell put.sector p cell)
      (still_whole put.sector p cell whole) filled.each)

  -- the sector that is found at a number
  sector_after : (q : Pos) (k : Option ℕ) → sector_of m.sizes q ≡ k
      → block_on next q ≡ block_in (sector_at (set m.sectors put.number (with_cell put.sector p cell)) k) q
  unfolding block_on
  sector_after q k is =
      ap (λ (n : MapData). block_in (sector_at n.sectors (sector_of n.sizes q)) q) put.made
      ∙ ap (λ s. block_in (sector_at (set m.sectors put.number (with_cell put.sector p cell)) s) q) is

  after_there : (q : Pos) → sector_of m.sizes q ≡ Some put.number
      → block_on next q ≡ block_at (with_cell put.sector p cell) q
  after_there q is =
      sector_after q (Some put.number) is
      ∙ ap (λ c. block_in c q) (set_found m.sectors put.number put.sector (with_cell put.sector p cell) put.there)

  before_at : (q : Pos) (k : Option ℕ) → sector_of m.sizes q ≡ k
      → block_in (sector_at m.sectors k) q ≡ block_on m q
  unfolding block_on
  before_at q k is = ap (λ s. block_in (sector_at m.sectors s) q) (sym is)

  valid : AreSizes put.sector.bounds
  valid = subst AreSizes (sym (placed_at m.sizes 0 put.number m.sectors put.sector filled.map.each put.there).0) filled.map.valid

  read : block_on next p ≡ placed cell
  read =
      after_there p put.is_of
      ∙ set_block_is_read put.sector p (placed cell) valid whole put.held

  module _ (q : Pos) (differ : q ≢ p) where
    at_number : (k : ℕ) (b : Bool) → sector_of m.sizes q ≡ Some k → nat_eq k put.number ≡ b
        → block_on next q ≡ block_on m q
    at_number k true is same =
        let of : sector_of m.sizes q ≡ Some put.number = is ∙ ap Some (eqb-true k put.number same) in
        after_there q of
        ∙ other_blocks_stay put.sector p q (placed cell) valid put.held
        (is_held m q put.number of put.sector filled.map put.there) differ
        ∙ sym (ap (λ c. block_in c q) put.there)
        ∙ before_at q (Some put.number) of
    at_number k false is other =
        sector_after q (Some k) is
        ∙ ap (λ c. block_in c q) (set_beside m.sectors put.number k (with_cell put.sector p cell)
        (λ same. false≢true (sym other ∙ eq-eqb k put.number same)))
        ∙ before_at q (Some k) is

    stays : (k : Option ℕ) → sector_of m.sizes q ≡ k → block_on next q ≡ block_on m q
    stays None is = sector_after q None is ∙ before_at q None is
    stays (Some k) is = at_number k (nat_eq k put.number) is refl

pub put_cell_is_read : PutCellIsRead
put_cell_is_read m next p cell filled made = read m next p cell filled (is_put m next p cell made)

pub others_stay : OthersStay
others_stay m next p q cell filled made differ =
    stays m next p cell filled (is_put m next p cell made) q differ (sector_of m.sizes q) refl

pub put_stays_filled : PutStaysFilled
put_stays_filled m next p cell filled made =
    let put = is_put m next p cell made in (
      record {
        map = cell_keeps_map m next p cell filled.map made;
        each = all_whole m next p cell filled put;
      },
      sizes_stay m next p cell filled put,
    )

-- a sector is there for each position inside the world
module _ (m : MapData) (p : Pos) (cell : Cell) (filled : IsFilled m) where
  has_sector : is_inside m.sizes p ≡ true → (c : SectorCells) × (slice_get m.sectors (sector_number m.sizes p) ≡ Some c)
  has_sector inside =
      item_there m.sectors (sector_number m.sizes p)
      (omega (arith, filled.map.all, number_below m.sizes p filled.map.valid inside))

  -- so there a cell is put down
  by_inside : (b : Bool) → is_inside m.sizes p ≡ b → is_some (with_cell_on m p cell) ≡ b
  unfolding with_cell_on sector_of
  by_inside false outside =
      ap (λ b. is_some (option_and_then (λ k. set_in m p cell k (slice_get m.sectors k)) (if b then Some (sector_number m.sizes p) else None))) outside
  by_inside true inside =
      let found = has_sector inside in
      let is = numbered m.sizes p inside in
      ap is_some (cell_is_set m p cell (sector_number m.sizes p) found.0 (with_cell found.0 p cell) is found.1
      (is_held m p (sector_number m.sizes p) is found.0 filled.map found.1) refl)

pub put_inside : PutInside
put_inside m p cell filled = by_inside m p cell filled (is_inside m.sizes p) refl
