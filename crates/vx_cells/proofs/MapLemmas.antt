-- What is found on a map.
use Rattle.std.proofs.Common.{◌≡◌, ℕ, zero, suc, ◌+◌, ◌<◌, ◌≤◌, true, false, List, [], ◌∷◌, length, nat_eq, nat_lt, get_or, slice_get, Some, None, ℤ, pos, ◌*◌, Bool, if◌then◌else◌, refl, sym, ap, ◌∙◌, arith}
use Rattle.std.specs.Option.{option_map_or}
use Rattle.std.proofs.lemmas.Bool.{eq-eqb, ltb-true, and_from}
use Rattle.std.proofs.lemmas.Int.{ints}
use Rattle.std.proofs.lemmas.Nat.{mul-le}
use Rattle.std.proofs.lemmas.Option.{slice_get_past, slice_get_read}
use Rattle.vx_block.specs.declared.cell.Cell.TheVariants.{Air}
use Rattle.vx_geom.specs.declared.bounds.TheConstants.{MAX_SECTORS_EACH_WAY, MAX_CHUNKS_EACH_WAY}
use Rattle.vx_geom.specs.declared.pos.Pos.{Pos}
use Rattle.vx_geom.specs.Sizes.{Sizes, AreSizes, is_below, is_inside, sector_number, sector_of}
use Rattle.vx_geom.proofs.SectorLemmas.{below_from, held_at, in_sector, inside_at}
use Rattle.vx_cells.specs.SectorCells.{SectorCells, holds, cell_at}
use Rattle.vx_cells.specs.Maps.{MapData, AreFrom, AreSectors, sector_at, cell_in, cell_on, far, is_near}

-- what is found at a place is the sector of that number
pub placed_at : (sizes : Sizes) (k i : ℕ) (cs : List SectorCells) (c : SectorCells)
    → AreFrom sizes k cs → slice_get cs i ≡ Some c
    → (c.bounds ≡ sizes) × (c.sector ≡ k + i)
placed_at sizes k i [] c each found = cc
placed_at sizes k zero (d ∷ cs) c each found =
    let same : d ≡ c = cc in
    let sector : c.sector ≡ k = ap (λ s. s.sector) (sym same) ∙ each.1 in (
      ap (λ s. s.bounds) (sym same) ∙ each.0,
      omega (arith, sector),
    )
placed_at sizes k (suc i) (d ∷ cs) c each found =
    let further = placed_at sizes (suc k) i cs c each.2 found in
    (further.0, omega (arith, further.1))

-- what `get` answers is found there
pub there : (cs : List SectorCells) (k : ℕ) (c : SectorCells)
    → true ≡ nat_lt k (length cs) → c ≡ get_or cs k c → slice_get cs k ≡ Some c
there cs k c within value =
    slice_get_read cs (length cs) k c refl (ltb-true k (length cs) (sym within)) value

-- the sector of a position's number is there
pub is_there : (sizes : Sizes) (cs : List SectorCells) (p : Pos) (k : ℕ) → sector_of sizes p ≡ Some k → AreSectors sizes cs → k < length cs
is_there sizes cs p k found whole =
    let below = (in_sector sizes p k whole.valid (held_at sizes p k whole.valid found)).0 in
    omega (arith, below, whole.all)

module _ (m : MapData) (p : Pos) (k : ℕ) (in_sector : sector_of m.sizes p ≡ Some k) where
  -- the sector of a position's number holds it
  pub is_held : (c : SectorCells)
      → AreSectors m.sizes m.sectors → slice_get m.sectors k ≡ Some c → holds c p ≡ true
  unfolding holds
  is_held c whole found =
      let placed = placed_at m.sizes 0 k m.sectors c whole.each found in
      ap (λ sizes. option_map_or (nat_eq c.sector) (sector_of sizes p) false) placed.0
      ∙ ap (λ s. option_map_or (nat_eq c.sector) s false) in_sector
      ∙ eq-eqb c.sector k (omega (arith, placed.1))

  -- and has the cell of the map
  pub cell_found : (c : SectorCells) → slice_get m.sectors k ≡ Some c → cell_at c p ≡ cell_on m p
  unfolding cell_on
  cell_found c found =
      sym (ap (λ s. cell_in (sector_at m.sectors s) p) in_sector ∙ ap (λ c. cell_in c p) found)

-- a world is no wider than that
pub narrow : (n s : ℕ) → n ≤ MAX_SECTORS_EACH_WAY → s ≤ MAX_CHUNKS_EACH_WAY → n * (16 * s) ≤ far
narrow n s few small =
    let most = mul-le n (16 * s) MAX_SECTORS_EACH_WAY (16 * MAX_CHUNKS_EACH_WAY) few (omega (arith, small)) in
    omega (arith, most)

is_low : (c : ℤ) (k n : ℕ) → c ≡ pos k → k < n → n ≤ far → is_below c far ≡ true
is_low c k n is low few = below_from c far (grind (arith, ints)) (grind (arith, ints))

-- a position inside a world is such as one may have
pub near_inside : (v : Sizes) (p : Pos) → AreSizes v → is_inside v p ≡ true → is_near p ≡ true
near_inside v p sizes inside =
    let at = inside_at v p inside in
    and_from _ _ (is_low p.x _ _ at.x_is at.x_below (narrow v.sx v.s sizes.sx_most sizes.s_most))
    (and_from _ _ (is_low p.y _ _ at.y_is at.y_below (omega arith))
    (is_low p.z _ _ at.z_is at.z_below (narrow v.sz v.s sizes.sz_most sizes.s_most)))

-- outside the world there is air
pub outside_is_air : (m : MapData) (p : Pos)
    → (is_inside m.sizes p ≡ true → ⊥) → cell_on m p ≡ Air
unfolding cell_on sector_of
outside_is_air m p outside = by (is_inside m.sizes p) refl
  where
    by : (b : Bool) → is_inside m.sizes p ≡ b
        → cell_in (sector_at m.sectors (if is_inside m.sizes p then Some (sector_number m.sizes p) else None)) p ≡ Air
    by true inside = absurd (outside inside)
    by false is =
        ap (λ b. cell_in (sector_at m.sectors (if b then Some (sector_number m.sizes p) else None)) p) is
