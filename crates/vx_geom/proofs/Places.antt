-- Each index of a sector has a position there, each position there its index, and both have one order.
use Rattle.std.proofs.Common.{◌≡◌, ℕ, pos, ◌+◌, ◌*◌, ◌/◌, ◌%◌, ◌<◌, ◌≤◌, ◌⊎◌, inl, inr, true, Some, unsigned_abs, ap, ◌∙◌, arith}
use Rattle.std.specs.Prelude.{int_lt}
use Rattle.std.specs.Cmp.{signed_Decides}
use Rattle.std.specs.Ordering.{int_eq}
use Rattle.std.proofs.lemmas.Bool.{and_from, or_left, or_right, cases_lt, lt-ltb}
use Rattle.std.proofs.lemmas.Int.{ints}
use Rattle.std.proofs.lemmas.Nat.{mod_below, le-div}
use Rattle.vx_geom.specs.declared.pos.Pos.{Pos}
use Rattle.vx_geom.specs.Order.{comes_before}
use Rattle.vx_geom.specs.Places.{north, position_in_sector, IndicesArePlaces}
use Rattle.vx_geom.specs.Sizes.{Sizes, AreSizes, span, sector_count, sector_cells, sector_of, index_in_sector}
use Rattle.vx_geom.proofs.Divisions.{part_below, number_column, number_below}
use Rattle.vx_geom.proofs.SectorLemmas.{Inside, held_at, sector_from, same_index}

-- of two numbers the lesser lies in an earlier part, or in the same one at an earlier place
earlier : (w a b : ℕ) → 0 < w → a < b → (a / w < b / w) ⊎ ((a / w ≡ b / w) × (a % w < b % w))
earlier w a b wide less = elim (cases_lt (a / w) (b / w)) [
  | inl before ↦ inl before
  | inr after ↦
      let no_later : a / w ≤ b / w = le-div (a / w) b w wide (omega arith) in
      let same : a / w ≡ b / w = omega arith in
      inr (same, omega (arith, ap (λ k. w * k) same))
]

-- column b of part a
column_is : (w a b : ℕ) → b < w → (w * a + b) % w ≡ b
column_is w a b low =
    let turned : w * a + b ≡ b + w * a = omega arith in ap (λ k. k % w) turned ∙ number_column w b a low

-- an index is made of its column, its row and its layer
composed : (w n : ℕ) → 0 < w → n % w + w * (n / w % w + w * (n / w / w)) ≡ n
composed w n wide =
    let rows : n / w % w + w * (n / w / w) ≡ n / w = omega arith in
    ap (λ k. n % w + w * k) rows ∙ omega arith

-- an index below h layers lies in a layer below h
layer_below : (w h n : ℕ) → 0 < w → n < w * w * h → n / w / w < h
layer_below w h n wide low = part_below w h (n / w) wide (part_below w (h * w) n wide (omega arith))

-- every position inside has an index among the cells of a sector
pub index_below : (v : Sizes) (p : Pos) → AreSizes v → Inside v p → index_in_sector v p < sector_cells v
unfolding index_in_sector
index_below v p sizes at =
    let w = span v in
    let wide : 0 < w = omega arith in
    let x = unsigned_abs p.x in
    let y = unsigned_abs p.y in
    let z = unsigned_abs p.z in
    let row : z % w + w * y < w * v.h = number_below w v.h (z % w) y (mod_below z w wide) at.y_below in
    let below : x % w + w * (z % w + w * y) < w * (w * v.h) =
    number_below w (w * v.h) (x % w) (z % w + w * y) (mod_below x w wide) row in
    omega (arith, below)

-- the position of three natural numbers
abbrev at : ℕ → ℕ → ℕ → Pos
at y z x = record { y = pos y; z = pos z; x = pos x }

less_is : (a b : ℕ) → a < b → int_lt (pos a) (pos b) ≡ true
less_is a b less = lt-ltb a b less

same_is : (a b : ℕ) → a ≡ b → int_eq (pos a) (pos b) ≡ true
same_is a b same = (signed_Decides (pos a) (pos b)).1 (ap pos same)

-- what comes first by its layer, by its row in one layer, or by its column in one row
lower_first : (a b c d e f : ℕ) → a < b → comes_before (at a c e) (at b d f) ≡ true
unfolding comes_before
lower_first a b c d e f less = or_left _ _ (less_is a b less)

row_first : (a b c d e f : ℕ) → a ≡ b → c < d → comes_before (at a c e) (at b d f) ≡ true
unfolding comes_before
row_first a b c d e f same less =
    or_right _ _ (and_from _ _ (same_is a b same) (or_left _ _ (less_is c d less)))

column_first : (a b c d e f : ℕ) → a ≡ b → c ≡ d → e < f → comes_before (at a c e) (at b d f) ≡ true
unfolding comes_before
column_first a b c d e f same both less =
    or_right _ _ (and_from _ _ (same_is a b same)
    (or_right _ _ (and_from _ _ (same_is c d both) (less_is e f less))))

module _ (v : Sizes) (k : ℕ) (sizes : AreSizes v) (low : k < sector_count v) where
  wide : 0 < span v
  wide = omega (arith, sizes.s_least)

  -- an index's position is of the sector
  pub position_held : (n : ℕ) → n < sector_cells v → sector_of v (position_in_sector v k n) ≡ Some k
  unfolding position_in_sector
  position_held n within =
      let w = span v in
      let x_low = mod_below n w wide in
      let z_low = mod_below (n / w) w wide in
      let y_low = layer_below w v.h n wide within in
      sector_from v (position_in_sector v k n) k sizes low (record {
        west = omega (arith, ints);
        east = omega (arith, ints, x_low);
        north = omega (arith, ints);
        south = omega (arith, ints, z_low);
        bottom = omega (arith, ints);
        top = omega (arith, ints, y_low);
      })

  -- and has that index
  pub position_indexed : (n : ℕ) → index_in_sector v (position_in_sector v k n) ≡ n
  unfolding position_in_sector index_in_sector
  position_indexed n =
      let w = span v in
      let column = column_is w (k % v.sx) (n % w) (mod_below n w wide) in
      let row = column_is w (k / v.sx) (n / w % w) (mod_below (n / w) w wide) in
      (λ i. column i + w * (row i + w * (n / w / w))) ∙ composed w n wide

  -- a position of the sector is that of its index
  pub position_found : (p : Pos) → sector_of v p ≡ Some k → position_in_sector v k (index_in_sector v p) ≡ p
  position_found p held =
      let at = held_at v p k sizes held in
      let n = index_in_sector v p in
      let within = index_below v p sizes at.inside in
      let back = held_at v (position_in_sector v k n) k sizes (position_held n within) in
      same_index v (position_in_sector v k n) p k sizes back at (position_indexed n)

  -- of two indices the lesser has the position that comes first
  pub position_ordered : (a b : ℕ) → a < b
      → comes_before (position_in_sector v k a) (position_in_sector v k b) ≡ true
  unfolding position_in_sector
  position_ordered a b less =
      let w = span v in
      elim (earlier w a b wide less) [
        | inl rows ↦ elim (earlier w (a / w) (b / w) wide rows) [
          | inl layers ↦ lower_first _ _ _ _ _ _ layers
          | inr one_layer ↦ row_first _ _ _ _ _ _ one_layer.0 (omega (arith, one_layer.1))
        ]
        | inr one_row ↦
            column_first _ _ _ _ _ _ (ap (λ r. r / w) one_row.0)
            (ap (λ r. north v k + r % w) one_row.0) (omega (arith, one_row.1))
      ]

-- indices and positions of each sector of a world
pub indices_are_places : IndicesArePlaces
indices_are_places v k sizes low = record {
  held = position_held v k sizes low;
  indexed = λ n _. position_indexed v k sizes low n;
  found = position_found v k sizes low;
  ordered = λ a b less _. position_ordered v k sizes low a b less;
}
