-- One sector holds all that lies close to a position that has others of its sector on each side.
use Rattle.std.proofs.Common.{◌≡◌, ℕ, ℤ, pos, ◌+◌, ◌-◌, ◌*◌, ◌/◌, ◌%◌, ◌<◌, ◌≤◌, inl, inr, true, Some, slice_get, ap, sym, subst, ◌∙◌, arith}
use Rattle.std.specs.Int.{w32}
use Rattle.std.specs.Prelude.{FitsSigned, ◌+ℤ◌, ◌-ℤ◌, ◌≤ℤ◌, ◌<ℤ◌, unsigned_abs}
use Rattle.std.proofs.lemmas.Int.{ints}
use Rattle.vx_geom.specs.declared.dir.Dir.{Dir}
use Rattle.vx_geom.specs.declared.dir.Dir.TheVariants.{East, West, Up, Down, South, North}
use Rattle.vx_geom.specs.declared.pos.Pos.{Pos}
use Rattle.vx_geom.specs.Neighbor.{neighbor, FitsPos}
use Rattle.vx_geom.specs.Sectors.{InSector}
use Rattle.vx_geom.specs.Sizes.{Sizes, AreSizes, span, is_inside, sector_number, sector_of}
use Rattle.vx_geom.proofs.Divisions.{number_column, number_row}
use Rattle.vx_geom.proofs.SectorLemmas.{Held, held_at, in_sector, inside_at, sector_from}
use Rattle.vx_cells.specs.Maps.{MapData, AreSectors}
use Rattle.vx_cells.specs.Nearby.{IsClose, HasAround, IsBetween, IsAmid}
use Rattle.vx_cells.specs.SectorCells.{SectorCells}
use Rattle.vx_cells.proofs.Indices.{numbered, inside_from_holds}
use Rattle.vx_cells.proofs.MapLemmas.{is_held, cell_found, placed_at, narrow}
use Rattle.vx_cells.proofs.Sectioned.{side_is}

-- the columns beside one that lies between two others of its sector are of it
abbrev Between : ℕ → ℕ → Type 0
Between w n = (w * (n / w) + 1 ≤ n) × (n + 2 ≤ w * (n / w + 1)) × ((n - 1) % w + 3 ≤ w)

between_16 : (n : ℕ) → IsBetween 16 n → Between 16 n
between_16 n is = (omega (arith, is.0), omega (arith, is.1), omega (arith, is.0, is.1))

between_32 : (n : ℕ) → IsBetween 32 n → Between 32 n
between_32 n is = (omega (arith, is.0), omega (arith, is.1), omega (arith, is.0, is.1))

between : (v : Sizes) (n : ℕ) → AreSizes v → IsBetween (span v) n → Between (span v) n
between v n sizes is = elim (side_is v.s sizes.s_least sizes.s_most) [
  | inl one ↦ subst (λ s. IsBetween (16 * s) n → Between (16 * s) n) (sym one) (between_16 n) is
  | inr two ↦ subst (λ s. IsBetween (16 * s) n → Between (16 * s) n) (sym two) (between_32 n) is
]

-- what is one off a number between two others is between these
low_side : (c d : ℤ) (a n : ℕ) → c ≡ pos n → a + 1 ≤ n → (c -ℤ pos 1) ≤ℤ d → pos a ≤ℤ d
low_side c d a n is low close = omega (arith, ints, is, low, close)

high_side : (c d : ℤ) (b n : ℕ) → c ≡ pos n → n + 2 ≤ b → d ≤ℤ (c +ℤ pos 1) → d <ℤ pos b
high_side c d b n is high close = omega (arith, ints, is, high, close)

module _ (m : MapData) (p : Pos) (whole : AreSectors m.sizes m.sectors) (inside : is_inside m.sizes p ≡ true)
    (amid : IsAmid m.sizes p) where
  abbrev here : ℕ
  here = sector_number m.sizes p

  held : Held m.sizes here p
  held = held_at m.sizes p here whole.valid (numbered m.sizes p inside)

  -- all that lies close to it is in the sector's box
  close_in_box : (q : Pos) → IsClose p q → InSector m.sizes here q
  close_in_box q close =
      let v = m.sizes in
      let x = unsigned_abs p.x in
      let z = unsigned_abs p.z in
      let column = ap (λ n. n % v.sx) (sym held.number) ∙ number_column v.sx (x / span v) (z / span v) held.in_row in
      let row = ap (λ n. n / v.sx) (sym held.number) ∙ number_row v.sx (x / span v) (z / span v) held.in_row in
      let east_west = subst (λ n. (span v * n + 1 ≤ x) × (x + 2 ≤ span v * (n + 1))) (sym column)
      (let b = between v x whole.valid amid.column in (b.0, b.1)) in
      let north_south = subst (λ n. (span v * n + 1 ≤ z) × (z + 2 ≤ span v * (n + 1))) (sym row)
      (let b = between v z whole.valid amid.row in (b.0, b.1)) in
      record {
        west = low_side p.x q.x _ x held.inside.x_is east_west.0 close.west;
        east = high_side p.x q.x _ x held.inside.x_is east_west.1 close.east;
        north = low_side p.z q.z _ z held.inside.z_is north_south.0 close.north;
        south = high_side p.z q.z _ z held.inside.z_is north_south.1 close.south;
        bottom = low_side p.y q.y 0 (unsigned_abs p.y) held.inside.y_is amid.least close.under;
        top = high_side p.y q.y v.h (unsigned_abs p.y) held.inside.y_is (omega (arith, amid.most)) close.over;
      }

  close_is_of : (q : Pos) → IsClose p q → sector_of m.sizes q ≡ Some here
  close_is_of q close =
      sector_from m.sizes q here whole.valid (in_sector m.sizes p here whole.valid held).0 (close_in_box q close)

  -- the sector of the position has all of it
  pub has_around : (c : SectorCells) → slice_get m.sectors here ≡ Some c → HasAround m c p
  has_around c there = record {
    held = λ q close. is_held m q here (close_is_of q close) c whole there;
    stands = λ q close. cell_found m q here (close_is_of q close) c there;
    sizes = size;
    columns =
        subst (λ v. (unsigned_abs p.x - 1) % span v + 3 ≤ span v) (sym size)
        (between m.sizes (unsigned_abs p.x) whole.valid amid.column).2;
  }
    where
      size : c.bounds ≡ m.sizes
      size = (placed_at m.sizes 0 here m.sectors c whole.each there).0

-- a position is close to itself, and so is each one beside it
pub close_here : (p : Pos) → IsClose p p
close_here p = record {
  west = omega (arith, ints);
  east = omega (arith, ints);
  under = omega (arith, ints);
  over = omega (arith, ints);
  north = omega (arith, ints);
  south = omega (arith, ints);
}

-- what is one step off is close
pub close_beside : (p : Pos) (d : Dir) → IsClose p (neighbor p d)
close_beside p East = record {
  west = omega (arith, ints);
  east = omega (arith, ints);
  under = omega (arith, ints);
  over = omega (arith, ints);
  north = omega (arith, ints);
  south = omega (arith, ints);
}
close_beside p West = record {
  west = omega (arith, ints);
  east = omega (arith, ints);
  under = omega (arith, ints);
  over = omega (arith, ints);
  north = omega (arith, ints);
  south = omega (arith, ints);
}
close_beside p Up = record {
  west = omega (arith, ints);
  east = omega (arith, ints);
  under = omega (arith, ints);
  over = omega (arith, ints);
  north = omega (arith, ints);
  south = omega (arith, ints);
}
close_beside p Down = record {
  west = omega (arith, ints);
  east = omega (arith, ints);
  under = omega (arith, ints);
  over = omega (arith, ints);
  north = omega (arith, ints);
  south = omega (arith, ints);
}
close_beside p South = record {
  west = omega (arith, ints);
  east = omega (arith, ints);
  under = omega (arith, ints);
  over = omega (arith, ints);
  north = omega (arith, ints);
  south = omega (arith, ints);
}
close_beside p North = record {
  west = omega (arith, ints);
  east = omega (arith, ints);
  under = omega (arith, ints);
  over = omega (arith, ints);
  north = omega (arith, ints);
  south = omega (arith, ints);
}

-- a coordinate of the widest world is one of 32 bits
low_fits : (c : ℤ) (n : ℕ) → c ≡ pos (unsigned_abs c) → unsigned_abs c < n → n ≤ 512 → FitsSigned w32 c
low_fits c n is low few = record { sfits = omega (arith, ints, is, low, few) }

fits_inside : (v : Sizes) (p : Pos) → AreSizes v → is_inside v p ≡ true → FitsPos p
fits_inside v p sizes inside =
    let at = inside_at v p inside in
    record {
      y = low_fits p.y v.h at.y_is at.y_below (omega (arith, sizes.h_most));
      z = low_fits p.z (v.sz * span v) at.z_is at.z_below (narrow v.sz v.s sizes.sz_most sizes.s_most);
      x = low_fits p.x (v.sx * span v) at.x_is at.x_below (narrow v.sx v.s sizes.sx_most sizes.s_most);
    }

-- what lies close to a position and in its sector
module _ (m : MapData) (c : SectorCells) (p : Pos) (whole : AreSectors m.sizes m.sectors) (around : HasAround m c p)
    (q : Pos) (close : IsClose p q) where
  -- is of the world
  pub inside_around : is_inside m.sizes q ≡ true
  inside_around = subst (λ v. is_inside v q ≡ true) around.sizes (inside_from_holds c q (around.held q close))

  -- and its coordinates fit
  pub fits_around : FitsPos q
  fits_around = fits_inside m.sizes q whole.valid inside_around
