-- What it says of a position's coordinates that a sector holds it.
use Rattle.std.proofs.Common.{◌≡◌, ℕ, pos, negsuc, ◌+◌, ◌*◌, ◌/◌, ◌%◌, ◌<◌, ◌≤◌, Bool, true, false, ◌&&◌, Some, None, if◌then◌else◌, arith, ap, sym, refl, ◌∙◌, subst, zero-le}
use Rattle.std.specs.Prelude.{ℤ, int_le, int_lt, ◌≤ℤ◌, ◌<ℤ◌, unsigned_abs}
use Rattle.std.proofs.lemmas.Int.{ints}
use Rattle.std.proofs.lemmas.Bool.{and_parts, and_from, ltb-true}
use Rattle.vx_geom.specs.declared.pos.Pos.{Pos}
use Rattle.vx_geom.specs.Sizes.{Sizes, AreSizes, span, sector_count, is_below, is_inside, sector_number, sector_of, index_in_sector}
use Rattle.vx_geom.specs.Sectors.{InSector}
use Rattle.std.proofs.lemmas.Nat.{mod_below}
use Rattle.vx_geom.proofs.Divisions.{in_part, part_is, part_below, below_parts, number_column, number_row, number_below, same_number, same_from_part}
use Rattle.vx_geom.proofs.Positions.{same_pos}

-- a coordinate that is at least 0 and below n is the natural number that its size tells
pub below_at : (c : ℤ) (n : ℕ) → is_below c n ≡ true → (c ≡ pos (unsigned_abs c)) × (unsigned_abs c < n)
below_at (pos m) n below = (refl, ltb-true m n (and_parts _ _ below).1)
below_at (negsuc m) n below = cc

pub below_from : (c : ℤ) (n : ℕ) → pos 0 ≤ℤ c → c <ℤ pos n → is_below c n ≡ true
below_from c n low high = and_from (int_le (pos 0) c) (int_lt c (pos n)) (grind (arith, ints)) (grind (arith, ints))

-- a coordinate between two natural numbers is one
pub natural : (c : ℤ) (a b : ℕ) → pos a ≤ℤ c → c <ℤ pos b → (a ≤ unsigned_abs c) × (unsigned_abs c < b)
natural (pos m) a b low high = (omega (arith, ints), omega (arith, ints))
natural (negsuc m) a b low high = absurd (omega (arith, ints))

-- a position inside the world, its coordinates as natural numbers
pub record Inside (v : Sizes) (p : Pos) : Type 0 where
  pub x_is : p.x ≡ pos (unsigned_abs p.x)
  pub y_is : p.y ≡ pos (unsigned_abs p.y)
  pub z_is : p.z ≡ pos (unsigned_abs p.z)
  pub x_below : unsigned_abs p.x < v.sx * span v
  pub y_below : unsigned_abs p.y < v.h
  pub z_below : unsigned_abs p.z < v.sz * span v

pub inside_at : (v : Sizes) (p : Pos) → is_inside v p ≡ true → Inside v p
unfolding is_inside
inside_at v p inside =
    let parts = and_parts (is_below p.x (v.sx * span v)) (is_below p.y v.h && is_below p.z (v.sz * span v)) inside in
    let rest = and_parts (is_below p.y v.h) (is_below p.z (v.sz * span v)) parts.1 in
    let x = below_at p.x (v.sx * span v) parts.0 in
    let y = below_at p.y v.h rest.0 in
    let z = below_at p.z (v.sz * span v) rest.1 in
    record { x_is = x.0; y_is = y.0; z_is = z.0; x_below = x.1; y_below = y.1; z_below = z.1 }

some_if : (b : Bool) (n k : ℕ) → (if b then Some n else None) ≡ Some k → (b ≡ true) × (n ≡ k)
some_if true n k same = (refl, cc)
some_if false n k same = cc

-- a position that a sector holds is inside, and its sector's column and row are those of its own column
pub record Held (v : Sizes) (k : ℕ) (p : Pos) : Type 0 where
  pub inside : Inside v p
  pub in_row : unsigned_abs p.x / span v < v.sx
  pub in_column : unsigned_abs p.z / span v < v.sz
  pub number : unsigned_abs p.x / span v + v.sx * (unsigned_abs p.z / span v) ≡ k

pub held_at : (v : Sizes) (p : Pos) (k : ℕ) → AreSizes v → sector_of v p ≡ Some k → Held v k p
unfolding sector_of sector_number
held_at v p k sizes same =
    let parts = some_if (is_inside v p) (sector_number v p) k same in
    let inside = inside_at v p parts.0 in
    let wide : 0 < span v = omega arith in
    record {
      inside = inside;
      in_row = part_below (span v) v.sx (unsigned_abs p.x) wide inside.x_below;
      in_column = part_below (span v) v.sz (unsigned_abs p.z) wide inside.z_below;
      number = parts.1;
    }

within_low : (c : ℤ) (a : ℕ) → c ≡ pos (unsigned_abs c) → a ≤ unsigned_abs c → pos a ≤ℤ c
within_low c a natural low = omega (arith, ints)

within_high : (c : ℤ) (b : ℕ) → c ≡ pos (unsigned_abs c) → unsigned_abs c < b → c <ℤ pos b
within_high c b natural high = omega (arith, ints)

-- the sector's box holds each of its positions
pub in_sector : (v : Sizes) (p : Pos) (k : ℕ) → AreSizes v → Held v k p → (k < sector_count v) × InSector v k p
in_sector v p k sizes held =
    let x = unsigned_abs p.x in
    let z = unsigned_abs p.z in
    let wide : 0 < span v = omega arith in
    let column : k % v.sx ≡ x / span v =
    ap (λ n. n % v.sx) (sym held.number) ∙ number_column v.sx (x / span v) (z / span v) held.in_row in
    let row : k / v.sx ≡ z / span v =
    ap (λ n. n / v.sx) (sym held.number) ∙ number_row v.sx (x / span v) (z / span v) held.in_row in
    let low : k < sector_count v =
    subst (λ n. n < sector_count v) held.number (number_below v.sx v.sz (x / span v) (z / span v) held.in_row held.in_column) in
    let east_west = subst (λ n. (span v * n ≤ x) × (x < span v * (n + 1))) (sym column) (in_part (span v) x wide) in
    let north_south = subst (λ n. (span v * n ≤ z) × (z < span v * (n + 1))) (sym row) (in_part (span v) z wide) in (
      low,
      record {
        west = within_low _ _ held.inside.x_is east_west.0;
        east = within_high _ _ held.inside.x_is east_west.1;
        north = within_low _ _ held.inside.z_is north_south.0;
        south = within_high _ _ held.inside.z_is north_south.1;
        bottom = within_low _ _ held.inside.y_is zero-le;
        top = within_high _ _ held.inside.y_is held.inside.y_below;
      },
    )

-- a position in the sector's box is of that sector
pub sector_from : (v : Sizes) (p : Pos) (k : ℕ) → AreSizes v → k < sector_count v → InSector v k p → sector_of v p ≡ Some k
unfolding sector_of sector_number is_inside
sector_from v p k sizes low box =
    let wide : 0 < span v = omega arith in
    let some : 0 < v.sx = omega arith in
    let x = natural p.x (span v * (k % v.sx)) (span v * (k % v.sx + 1)) box.west box.east in
    let z = natural p.z (span v * (k / v.sx)) (span v * (k / v.sx + 1)) box.north box.south in
    let x_below = below_parts (span v) v.sx (k % v.sx) (unsigned_abs p.x) (mod_below k v.sx some) x.1 in
    let z_below = below_parts (span v) v.sz (k / v.sx) (unsigned_abs p.z) (part_below v.sx v.sz k some (omega arith)) z.1 in
    let inside : is_inside v p ≡ true =
    and_from (is_below p.x (v.sx * span v)) _ (below_from p.x _ (omega (arith, ints)) (omega (arith, ints, x_below)))
    (and_from (is_below p.y v.h) (is_below p.z (v.sz * span v)) (below_from p.y v.h box.bottom box.top)
    (below_from p.z _ (omega (arith, ints)) (omega (arith, ints, z_below)))) in
    let column = part_is (span v) (k % v.sx) (unsigned_abs p.x) wide x.0 x.1 in
    let row = part_is (span v) (k / v.sx) (unsigned_abs p.z) wide z.0 z.1 in
    let number : sector_number v p ≡ k = omega (arith, column, ap (λ n. v.sx * n) row) in
    ap (λ b. if b then Some (sector_number v p) else None) inside ∙ ap Some number

-- two positions of one sector have two indices
pub same_index : (v : Sizes) (p q : Pos) (k : ℕ) → AreSizes v → Held v k p → Held v k q → index_in_sector v p ≡ index_in_sector v q
    → p ≡ q
unfolding index_in_sector
same_index v p q k sizes held_p held_q same =
    let w = span v in
    let wide : 0 < w = omega arith in
    let px = unsigned_abs p.x in
    let py = unsigned_abs p.y in
    let pz = unsigned_abs p.z in
    let qx = unsigned_abs q.x in
    let qy = unsigned_abs q.y in
    let qz = unsigned_abs q.z in
    let one_sector = held_p.number ∙ sym held_q.number in
    let sectors = same_number v.sx (px / w) (pz / w) (qx / w) (qz / w) held_p.in_row held_q.in_row one_sector in
    let p_rest = pz % w + w * py in
    let q_rest = qz % w + w * qy in
    let columns = same_number w (px % w) p_rest (qx % w) q_rest (mod_below px w wide) (mod_below qx w wide) same in
    let rows = same_number w (pz % w) py (qz % w) qy (mod_below pz w wide) (mod_below qz w wide) columns.1 in
    let in_x = same_from_part w px qx sectors.0 columns.0 in
    let in_z = same_from_part w pz qz sectors.1 rows.0 in
    same_pos p q
    (held_p.inside.y_is ∙ ap pos rows.1 ∙ sym held_q.inside.y_is)
    (held_p.inside.z_is ∙ ap pos in_z ∙ sym held_q.inside.z_is)
    (held_p.inside.x_is ∙ ap pos in_x ∙ sym held_q.inside.x_is)
