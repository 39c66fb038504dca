-- What is listed of a sector, in the order of its positions.
use Rattle.std.proofs.Common.{◌≡◌, ℕ, zero, suc, ◌+◌, ◌<◌, ◌≤◌, Bool, ◌∷◌, slice_get, cond, Some, refl, ap, ◌∙◌, arith}
use Rattle.std.specs.List.{filter}
use Rattle.vx_block.specs.declared.cell.Cell.{Cell}
use Rattle.vx_block.specs.Components.{is_device, is_component}
use Rattle.vx_geom.specs.declared.pos.Pos.{Pos}
use Rattle.vx_geom.specs.Places.{position_in_sector, positions_from, positions}
use Rattle.vx_geom.specs.Sizes.{Sizes, AreSizes, sector_count, sector_cells, sector_of}
use Rattle.vx_geom.proofs.Places.{position_held}
use Rattle.vx_cells.specs.Listed.{components_of, devices_of, components_on, devices_on}
use Rattle.vx_cells.specs.Maps.{MapData, AreSectors, cell_on}
use Rattle.vx_cells.specs.SectorCells.{SectorCells, cell_at}
use Rattle.vx_cells.proofs.MapLemmas.{placed_at, cell_found}

-- two tests that agree on the positions of a sector find the same
module _ (f g : Pos → Bool) (v : Sizes) (k : ℕ) (sizes : AreSizes v) (low : k < sector_count v)
    (same : (p : Pos) → sector_of v p ≡ Some k → f p ≡ g p) where
  pub same_found : (n from : ℕ) → from + n ≤ sector_cells v
      → filter f (positions_from v k from n) ≡ filter g (positions_from v k from n)
  same_found zero from within = refl
  same_found (suc n) from within =
      let p = position_in_sector v k from in
      let here = same p (position_held v k sizes low from (omega arith)) in
      let later = same_found n (suc from) (omega arith) in
      λ t. cond (here t) (p ∷ later t) (later t)

module _ (m : MapData) (k : ℕ) (c : SectorCells) (whole : AreSectors m.sizes m.sectors)
    (low : k < sector_count m.sizes) (found : slice_get m.sectors k ≡ Some c) where
  -- what passes a test in a sector of a map passes it on the map
  listed_same : (test : Cell → Bool) → filter (λ p. test (cell_at c p)) (positions c.bounds c.sector)
      ≡ filter (λ p. test (cell_on m p)) (positions m.sizes k)
  unfolding positions
  listed_same test =
      let place = placed_at m.sizes 0 k m.sectors c whole.each found in
      let number : c.sector ≡ k = omega (arith, place.1) in
      (λ t. filter (λ p. test (cell_at c p)) (positions_from (place.0 t) (number t) 0 (sector_cells (place.0 t))))
      ∙ same_found (λ p. test (cell_at c p)) (λ p. test (cell_on m p)) m.sizes k whole.valid low
      (λ p held. ap test (cell_found m p k held c found)) (sector_cells m.sizes) 0 (omega arith)

  -- so with components
  pub components_same : components_of c ≡ components_on m k
  unfolding components_of components_on
  components_same = listed_same is_component

  -- and with devices
  pub devices_same : devices_of c ≡ devices_on m k
  unfolding devices_of devices_on
  devices_same = listed_same is_device
