-- Columns of a row of a layer: their indices in a sector, and what their marks tell.
use Rattle.std.proofs.Common.{◌≡◌, ℕ, pos, unsigned_abs, ◌+◌, ◌*◌, ◌/◌, ◌%◌, ◌<◌, ◌≤◌, inl, inr, true, ◌&&◌, nat_lt, List, Some, ap, sym, subst, ◌∙◌, w32, arith}
use Rattle.std.proofs.lemmas.Bool.{and_from, and_left, and_parts, cases_lt, le-ltb}
use Rattle.std.proofs.lemmas.Int.{ints}
use mir.Val.{to_z}
use Rattle.vx_geom.specs.declared.pos.Pos.{Pos}
use Rattle.vx_geom.specs.Sizes.{Sizes, AreSizes, span, is_below, is_inside, sector_number, sector_of, index_in_sector}
use Rattle.vx_geom.proofs.Divisions.{part_is, part_below, below_parts}
use Rattle.vx_geom.proofs.SectorLemmas.{below_from, inside_at}
use Rattle.vx_marks.specs.Marks.{is_marked, AreBits}
use Rattle.vx_marks.specs.declared.page.TheConstants.{PAGE}
use Rattle.vx_cells.specs.Listed.{place, AreInRow}
use Rattle.vx_cells.proofs.Indices.{numbered}
use Rattle.vx_cells.proofs.Sectioned.{side_is}
use Rattle.vx_cells.proofs.MapLemmas.{narrow}

-- a later column of one part lies as much later in it
pub later_column : (w x k : ℕ) → 0 < w → x % w + k < w → ((x + k) / w ≡ x / w) × ((x + k) % w ≡ x % w + k)
later_column w x k wide low =
    let same : (x + k) / w ≡ x / w = part_is w (x / w) (x + k) wide (omega arith) (omega arith) in (
      same,
      omega (arith, ap (λ n. w * n) same),
    )

-- columns of a row of 16 or 32 lie within a word of 64
row_in_word_16 : (a r n : ℕ) → a < 16 → a + n ≤ 16 → (a + 16 * r) % 64 + n ≤ 64
row_in_word_16 a r n low within = omega arith

row_in_word_32 : (a r n : ℕ) → a < 32 → a + n ≤ 32 → (a + 32 * r) % 64 + n ≤ 64
row_in_word_32 a r n low within = omega arith

abbrev Fits : ℕ → ℕ → ℕ → ℕ → Type 0
Fits w a r n = a < w → a + n ≤ w → (a + w * r) % 64 + n ≤ 64

row_in_word : (s a r n : ℕ) → 1 ≤ s → s ≤ 2 → Fits (16 * s) a r n
row_in_word s a r n least most = elim (side_is s least most) [
  | inl one ↦ subst (λ k. Fits (16 * k) a r n) (sym one) (row_in_word_16 a r n)
  | inr two ↦ subst (λ k. Fits (16 * k) a r n) (sym two) (row_in_word_32 a r n)
]

-- so many columns of a row of a layer of a sector, from a column with that index on
module _ (v : Sizes) (sizes : AreSizes v) (x y z count index : ℕ) (at : index ≡ index_in_sector v (place x y z))
    (within : x % span v + count ≤ span v) where
  wide : 0 < span v
  wide = omega (arith, sizes.s_least)

  -- the index of a later column of the row
  pub index_later : (k : ℕ) → k < count → index_in_sector v (place (x + k) y z) ≡ index + k
  unfolding index_in_sector
  index_later k low =
      let column = (later_column (span v) x k wide (omega (arith, within, low))).1 in
      omega (arith, column, at)

  -- all of them lie in one word of marks
  pub in_word : index % 64 + count ≤ 64
  unfolding index_in_sector
  in_word =
      let rest = z % span v + span v * y in
      let fits = row_in_word v.s (x % span v) rest count sizes.s_least sizes.s_most (omega (arith, wide)) within in
      omega (arith, ap (λ n. n % 64) at, fits)

-- the bits of a page tell in which of the columns of a row it has marks
pub bits_in_row : (v : Sizes) (sizes : AreSizes v) (page : List ℕ) (x y z count index bits : ℕ)
    → index ≡ index_in_sector v (place x y z) → x % span v + count ≤ span v
    → AreBits page (index % PAGE) count bits → AreInRow (λ q. is_marked page (index_in_sector v q % PAGE)) x y z count bits
bits_in_row v sizes page x y z count index bits is within are k = are k ∙ elim (cases_lt k count) [
  | inl low ↦
      let at : index % PAGE + k ≡ index_in_sector v (place (x + k) y z) % PAGE =
      omega (arith, low, index_later v sizes x y z count index is within k low, in_word v sizes x y z count index is within) in
      ap (λ i. nat_lt k count && is_marked page i) at
  | inr high ↦ let past = le-ltb k count high in and_left _ _ past ∙ sym (and_left _ _ past)
]

-- so many columns of a row of a layer, from a column of the world on, within a sector
module _ (v : Sizes) (sizes : AreSizes v) (x y z count : ℕ) (inside : is_inside v (place x y z) ≡ true)
    (within : x % span v + count ≤ span v) where
  side : 0 < span v
  side = omega (arith, sizes.s_least)

  -- are of the world
  column_inside : (k : ℕ) → k < count → is_inside v (place (x + k) y z) ≡ true
  unfolding is_inside
  column_inside k low =
      let at = inside_at v (place x y z) inside in
      let part = part_below (span v) v.sx x side at.x_below in
      let below = below_parts (span v) v.sx (x / span v) (x + k) part (omega (arith, within, low)) in
      and_from (is_below (pos (x + k)) (v.sx * span v)) _
      (below_from (pos (x + k)) (v.sx * span v) (omega (arith, ints)) (omega (arith, ints, below)))
      (and_parts (is_below (pos x) (v.sx * span v)) _ inside).1

  -- and of the sector of the first one
  pub column_held : (k : ℕ) → k < count → sector_of v (place (x + k) y z) ≡ Some (sector_number v (place x y z))
  unfolding sector_number
  column_held k low =
      numbered v (place (x + k) y z) (column_inside k low)
      ∙ ap (λ n. Some (n + v.sx * (z / span v))) (later_column (span v) x k side (omega (arith, within, low))).0

-- all indices of a layer are of one page
layer_16 : (a b y : ℕ) → a < 16 → b < 16 → (a + 16 * (b + 16 * y)) / PAGE ≡ 16 * 16 * y / PAGE
layer_16 a b y low_a low_b = omega arith

layer_32 : (a b y : ℕ) → a < 32 → b < 32 → (a + 32 * (b + 32 * y)) / PAGE ≡ 32 * 32 * y / PAGE
layer_32 a b y low_a low_b = omega arith

abbrev LiesIn : ℕ → ℕ → ℕ → ℕ → Type 0
LiesIn w a b y = a < w → b < w → (a + w * (b + w * y)) / PAGE ≡ w * w * y / PAGE

pub layer_page : (v : Sizes) (p : Pos) → AreSizes v
    → index_in_sector v p / PAGE ≡ span v * span v * unsigned_abs p.y / PAGE
unfolding index_in_sector
layer_page v p sizes =
    let a = unsigned_abs p.x % span v in
    let b = unsigned_abs p.z % span v in
    let y = unsigned_abs p.y in
    let some : 0 < span v = omega (arith, sizes.s_least) in
    let lies : LiesIn (span v) a b y = elim (side_is v.s sizes.s_least sizes.s_most) [
      | inl one ↦ subst (λ k. LiesIn (16 * k) a b y) (sym one) (layer_16 a b y)
      | inr two ↦ subst (λ k. LiesIn (16 * k) a b y) (sym two) (layer_32 a b y)
    ] in
    lies (omega (arith, some)) (omega (arith, some))

-- the coordinates of a place in a world are small
pub low_inside : (v : Sizes) (x y z : ℕ) → AreSizes v → is_inside v (place x y z) ≡ true
    → (x < 512) × (y < 512) × (z < 512)
low_inside v x y z sizes inside =
    let at = inside_at v (place x y z) inside in (
      omega (arith, at.x_below, narrow v.sx v.s sizes.sx_most sizes.s_most),
      omega (arith, at.y_below),
      omega (arith, at.z_below, narrow v.sz v.s sizes.sz_most sizes.s_most),
    )

-- a small number that is cast to a coordinate
cast_is : (n : ℕ) → n < 512 → to_z w32 n ≡ pos n
cast_is n low = omega (arith, ints)

-- a place whose coordinates were cast
pub place_is : (x y z : ℕ) (p : Pos) → x < 512 → y < 512 → z < 512
    → p ≡ record { y = to_z w32 y; z = to_z w32 z; x = to_z w32 x } → p ≡ place x y z
place_is x y z p low_x low_y low_z is =
    let in_x = cast_is x low_x in
    let in_y = cast_is y low_y in
    let in_z = cast_is z low_z in
    is ∙ (λ i. record { y = in_y i; z = in_z i; x = in_x i })
