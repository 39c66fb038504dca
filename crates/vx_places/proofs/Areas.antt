-- Columns and rows that lie in one sector: their positions are of it, and their indices.
use Rattle.std.proofs.Common.{◌≡◌, ℕ, ◌+◌, ◌-◌, ◌*◌, ◌/◌, ◌%◌, ◌<◌, ◌≤◌, List, true, false, true≢false, nat_eq, if◌then◌else◌, Option, Some, None, inl, inr, refl, ap, sym, subst, ◌∙◌, arith}
use Rattle.std.specs.Option.{option_map_or}
use Rattle.std.proofs.lemmas.Bool.{cases_Bool, eq-eqb, false_from_ne_true}
use Rattle.std.proofs.lemmas.Nat.{mul-le}
use Rattle.vx_block.specs.declared.cell.Cell.TheVariants.{Air}
use Rattle.vx_store.specs.MachineMarks.{is_of}
use Rattle.vx_store.specs.declared.mark_kind.MarkKind.{MarkKind}
use Rattle.vx_store.specs.declared.mark_kind.MarkKind.TheVariants.{Component, Device}
use Rattle.vx_geom.specs.declared.pos.Pos.{Pos}
use Rattle.vx_geom.specs.Sizes.{Sizes, AreSizes, span, is_inside, sector_number, sector_of, index_in_sector}
use Rattle.vx_geom.proofs.Divisions.{in_part, part_below, below_parts}
use Rattle.vx_geom.proofs.SectorLemmas.{inside_at}
use Rattle.vx_cells.specs.Listed.{place}
use Rattle.vx_cells.specs.Maps.{MapData, AreSectors, sector_at, cell_in, cell_on}
use Rattle.vx_cells.specs.SectorCells.{SectorCells, holds}
use Rattle.vx_cells.proofs.Indices.{numbered}
use Rattle.vx_cells.proofs.MapLemmas.{placed_at, outside_is_air}
use Rattle.vx_cells.proofs.Rows.{later_column, layer_page}
use Rattle.vx_cells.proofs.Sectioned.{side_is}
use Rattle.vx_marks.specs.Marks.{AreBlank}
use Rattle.vx_marks.specs.declared.page.TheConstants.{PAGE}
use Rattle.vx_marks.proofs.Marking.{blank_unmarked}
use Rattle.vx_places.specs.Areas.{IsColumnOf, LiesInOne, IsPart, IsSector, marked_by}
use Rattle.vx_places.specs.declared.area.Area.{Area}
use Rattle.vx_places.proofs.Marked.{inside_of, number_of}
use Rattle.vx_places.proofs.Near.{inside_below}

later : (w c d n k : ℕ) → 0 < w → d ≡ c + k → c % w + n ≤ w → k < n → (d / w ≡ c / w) × (d % w ≡ c % w + k)
later w c d n k wide is within low =
    let part = later_column w c k wide (omega (arith, within, low)) in
    (ap (λ m. m / w) is ∙ part.0, ap (λ m. m % w) is ∙ part.1)

sum_of : (w a b dx dz y : ℕ) → a + dx + w * (b + dz + w * y) ≡ a + w * (b + w * y) + (dx + w * dz)
sum_of w a b dx dz y = omega arith

-- a column is of the world where another of the same part is
also_below : (w n x c : ℕ) → 0 < w → x / w ≡ c / w → x < n * w → c < n * w
also_below w n x c wide same low =
    below_parts w n (c / w) c (omega (arith, same, part_below w n x wide low)) (in_part w c wide).1

no_sector : (v : Sizes) (p : Pos) → is_inside v p ≡ false → sector_of v p ≡ None
unfolding sector_of
no_sector v p outside = ap (λ b. if b then Some (sector_number v p) else None) outside

-- the word of an index in its page, by that of the place below it in the lowest layer
word_16 : (a b y : ℕ) → a < 16 → b < 16
    → 16 * 16 / 64 * y % 64 + (a + 16 * (b + 16 * 0)) / 64 ≡ (a + 16 * (b + 16 * y)) % PAGE / 64
word_16 a b y low_a low_b = omega arith

word_32 : (a b y : ℕ) → a < 32 → b < 32
    → 32 * 32 / 64 * y % 64 + (a + 32 * (b + 32 * 0)) / 64 ≡ (a + 32 * (b + 32 * y)) % PAGE / 64
word_32 a b y low_a low_b = omega arith

abbrev HasWord : ℕ → ℕ → ℕ → ℕ → Type 0
HasWord w a b y = a < w → b < w → w * w / 64 * y % 64 + (a + w * (b + w * 0)) / 64 ≡ (a + w * (b + w * y)) % PAGE / 64

word_of : (v : Sizes) → AreSizes v → (x y z : ℕ)
    → span v * span v / 64 * y % 64 + index_in_sector v (place x 0 z) / 64 ≡ index_in_sector v (place x y z) % PAGE / 64
unfolding index_in_sector
word_of v sizes x y z =
    let some : 0 < span v = omega (arith, sizes.s_least) in
    let has : HasWord (span v) (x % span v) (z % span v) y = elim (side_is v.s sizes.s_least sizes.s_most) [
      | inl one ↦ subst (λ k. HasWord (16 * k) (x % span v) (z % span v) y) (sym one) (word_16 (x % span v) (z % span v) y)
      | inr two ↦ subst (λ k. HasWord (16 * k) (x % span v) (z % span v) y) (sym two) (word_32 (x % span v) (z % span v) y)
    ] in
    has (omega (arith, some)) (omega (arith, some))

module _ (v : Sizes) (sizes : AreSizes v) (area : Area) where
  module _ (one : LiesInOne v area) (x z : ℕ) (of : IsColumnOf area x z) where
    column : (x / span v ≡ area.west / span v) × (x % span v ≡ area.west % span v + (x - area.west))
    column =
        later (span v) area.west x (area.east - area.west) (x - area.west) (omega (arith, sizes.s_least)) (omega (arith, of.west))
        one.columns (omega (arith, of.west, of.east))

    row : (z / span v ≡ area.north / span v) × (z % span v ≡ area.north % span v + (z - area.north))
    row =
        later (span v) area.north z (area.south - area.north) (z - area.north) (omega (arith, sizes.s_least)) (omega (arith, of.north))
        one.rows (omega (arith, of.north, of.south))

    -- a position is of the sector of the first
    pub same_sector : (y : ℕ) → sector_number v (place x y z) ≡ sector_number v (place area.west 0 area.north)
    unfolding sector_number
    same_sector y = λ i. column.0 i + v.sx * row.0 i

    -- so many columns from it on lie in one sector
    pub run_within : (n : ℕ) → x + n ≤ area.east → x % span v + n ≤ span v
    run_within n low = omega (arith, column.1, one.columns, of.west, low)

    -- and its index comes as much later
    index_later : (y : ℕ) → index_in_sector v (place x y z)
        ≡ index_in_sector v (place area.west y area.north) + (x - area.west + span v * (z - area.north))
    unfolding index_in_sector
    index_later y =
        (λ i. column.1 i + span v * (row.1 i + span v * y))
        ∙ sum_of (span v) (area.west % span v) (area.north % span v) (x - area.west) (z - area.north) y

    -- where the world has its column, it has that of the first, and the other way round
    columns_below : (area.west < v.sx * span v → x < v.sx * span v) × (x < v.sx * span v → area.west < v.sx * span v)
    columns_below = (
      also_below (span v) v.sx area.west x (omega (arith, sizes.s_least)) (sym column.0),
      also_below (span v) v.sx x area.west (omega (arith, sizes.s_least)) column.0,
    )

    rows_below : (area.north < v.sz * span v → z < v.sz * span v) × (z < v.sz * span v → area.north < v.sz * span v)
    rows_below = (
      also_below (span v) v.sz area.north z (omega (arith, sizes.s_least)) (sym row.0),
      also_below (span v) v.sz z area.north (omega (arith, sizes.s_least)) row.0,
    )

    abbrev corner : Pos
    corner = place area.west 0 area.north

    in_with_first : (y : ℕ) → y < v.h → is_inside v corner ≡ true → is_inside v (place x y z) ≡ true
    in_with_first y low inside =
        let at = inside_at v corner inside in
        inside_below v x y z (columns_below.0 at.x_below) low (rows_below.0 at.z_below)

    first_in_with : (y : ℕ) → is_inside v (place x y z) ≡ true → is_inside v corner ≡ true
    first_in_with y inside =
        let at = inside_at v (place x y z) inside in
        inside_below v area.west 0 area.north (columns_below.1 at.x_below) (omega (arith, sizes.h_least)) (rows_below.1 at.z_below)

    -- so that both are of one sector, or of none
    pub sector_with_first : (y : ℕ) → y < v.h → sector_of v (place x y z) ≡ sector_of v corner
    sector_with_first y low = elim (cases_Bool (is_inside v corner)) [
      | inl inside ↦
          numbered v (place x y z) (in_with_first y low inside)
          ∙ ap Some (same_sector y) ∙ sym (numbered v corner inside)
      | inr outside ↦
          no_sector v (place x y z)
          (false_from_ne_true _ (λ inside. true≢false (sym (first_in_with y inside) ∙ outside)))
          ∙ sym (no_sector v corner outside)
    ]

  -- where the world has the first position it has all of them
  pub part_from : LiesInOne v area → is_inside v (place area.west 0 area.north) ≡ true → IsPart v area
  part_from one inside =
      let at = inside_at v (place area.west 0 area.north) inside in
      let last : IsColumnOf area (area.east - 1) (area.south - 1) = record {
        west = omega (arith, one.wide);
        east = omega (arith, one.wide);
        north = omega (arith, one.long);
        south = omega (arith, one.long);
      } in
      record {
        one = one;
        last_column = omega (arith, one.wide, (columns_below one (area.east - 1) (area.south - 1) last).0 at.x_below);
        last_row = omega (arith, one.long, (rows_below one (area.east - 1) (area.south - 1) last).0 at.z_below);
      }

  module _ (part : IsPart v area) where
    pub area_inside : (x y z : ℕ) → IsColumnOf area x z → y < v.h → is_inside v (place x y z) ≡ true
    area_inside x y z of low =
        inside_below v x y z (omega (arith, of.east, part.last_column)) low (omega (arith, of.south, part.last_row))

    -- the first and the last of a layer
    module _ (y : ℕ) where
      pub first_of : IsColumnOf area area.west area.north
      first_of = record {
        west = omega arith;
        east = part.one.wide;
        north = omega arith;
        south = part.one.long;
      }

      pub last_of : IsColumnOf area (area.east - 1) (area.south - 1)
      last_of = record {
        west = omega (arith, part.one.wide);
        east = omega (arith, part.one.wide);
        north = omega (arith, part.one.long);
        south = omega (arith, part.one.long);
      }

      abbrev first : ℕ
      first = index_in_sector v (place area.west y area.north)

      abbrev last : ℕ
      last = index_in_sector v (place (area.east - 1) y (area.south - 1))

      last_is : last ≡ first + (area.east - 1 - area.west + span v * (area.south - 1 - area.north))
      last_is = index_later part.one (area.east - 1) (area.south - 1) last_of y

      one_page : first / PAGE ≡ last / PAGE
      one_page =
          layer_page v (place area.west y area.north) sizes ∙ sym (layer_page v (place (area.east - 1) y (area.south - 1)) sizes)

      -- their words, and those of the lowest layer
      abbrev pub low_word : ℕ
      low_word = index_in_sector v (place area.west 0 area.north) / 64

      abbrev pub low_end : ℕ
      low_end = index_in_sector v (place (area.east - 1) 0 (area.south - 1)) / 64 + 1

      abbrev pub layer : ℕ
      layer = span v * span v / 64 * y % 64

      first_word : layer + low_word ≡ first % PAGE / 64
      first_word = word_of v sizes area.west y area.north

      last_word : layer + low_end ≡ last % PAGE / 64 + 1
      last_word = omega (arith, word_of v sizes (area.east - 1) y (area.south - 1))

      -- are few, and of one page
      pub few_words : (layer + low_word < 64) × (low_word < low_end) × (low_end < low_word + 64) × (layer + low_end ≤ 64)
      few_words =
          let most = mul-le (span v) (area.south - 1 - area.north) 32 31
          (omega (arith, sizes.s_most)) (omega (arith, part.one.rows, part.one.long, sizes.s_most)) in (
            omega (arith, first_word),
            omega (arith, first_word, last_word, last_is, one_page),
            omega (arith, first_word, last_word, last_is, one_page, most, part.one.columns, part.one.wide, sizes.s_most),
            omega (arith, last_word),
          )

      -- where none of these words has a mark there is none in the area
      pub none_between : (page : List ℕ) → AreBlank page (layer + low_word) (low_end - low_word)
          → (x z : ℕ) → IsColumnOf area x z → marked_by page v (place x y z) ≡ false
      none_between page blank x z of =
          let index = index_in_sector v (place x y z) in
          let is = index_later part.one x z of y in
          let same = layer_page v (place area.west y area.north) sizes ∙ sym (layer_page v (place x y z) sizes) in
          let rows = mul-le (span v) (z - area.north) (span v) (area.south - 1 - area.north) (omega arith)
          (omega (arith, of.north, of.south)) in
          let before : index ≤ last = omega (arith, is, last_is, rows, of.west, of.east) in
          blank_unmarked page (layer + low_word) (low_end - low_word) (index % PAGE) blank
          (omega (arith, is, same, first_word)) (omega (arith, before, same, one_page, last_word, few_words.1))

-- a sector that has the first of them has all of them
pub area_held : (c : SectorCells) → AreSizes c.bounds → (area : Area) → IsPart c.bounds area → IsSector c.bounds area c.sector
    → (x y z : ℕ) → IsColumnOf area x z → y < c.bounds.h → holds c (place x y z) ≡ true
unfolding holds
area_held c sizes area part sector x y z of low =
    let v = c.bounds in
    ap (λ s. option_map_or (nat_eq c.sector) s false) (numbered v (place x y z) (area_inside v sizes area part x y z of low))
    ∙ eq-eqb c.sector (sector_number v (place x y z)) (sector ∙ sym (same_sector v sizes area part.one x z of y))

-- the sector of the first of them on a map
module _ (m : MapData) (whole : AreSectors m.sizes m.sectors) (area : Area) (one : LiesInOne m.sizes area)
    (found : Option SectorCells)
    (is : found ≡ sector_at m.sectors (sector_of m.sizes (place area.west 0 area.north))) where
  -- has what stands there
  pub stands_there : (x y z : ℕ) → IsColumnOf area x z → y < m.sizes.h → cell_on m (place x y z) ≡ cell_in found (place x y z)
  unfolding cell_on
  stands_there x y z of low =
      ap (λ s. cell_in (sector_at m.sectors s) (place x y z)) (sector_with_first m.sizes whole.valid area one x z of y low)
      ∙ ap (λ o. cell_in o (place x y z)) (sym is)

-- where it is there
pub record IsThere (m : MapData) (c : SectorCells) (p : Pos) : Type 0 where
  pub inside : is_inside m.sizes p ≡ true
  pub size : c.bounds ≡ m.sizes
  pub number : c.sector ≡ sector_number m.sizes p

pub is_there : (m : MapData) → AreSectors m.sizes m.sectors → (c : SectorCells) (p : Pos)
    → Some c ≡ sector_at m.sectors (sector_of m.sizes p) → IsThere m c p
is_there m whole c p is = by (sector_of m.sizes p) refl is
  where
    by : (s : Option ℕ) → sector_of m.sizes p ≡ s → Some c ≡ sector_at m.sectors s → IsThere m c p
    by None held found = absurd (cc)
    by (Some k) held found =
        let inside = inside_of m.sizes p k held in
        let placed = placed_at m.sizes 0 k m.sectors c whole.each (sym found) in
        record {
          inside = inside;
          size = placed.0;
          number = omega (arith, placed.1, number_of m.sizes p k held);
        }

-- air is of no kind
pub no_air : (kind : MarkKind) → is_of kind Air ≡ false
no_air Component = refl
no_air Device = refl

-- what is of a kind stands inside the world
pub kind_inside : (kind : MarkKind) (m : MapData) (q : Pos) → is_of kind (cell_on m q) ≡ true → is_inside m.sizes q ≡ true
kind_inside kind m q stands = elim (cases_Bool (is_inside m.sizes q)) [
  | inl inside ↦ inside
  | inr outside ↦
      let air = outside_is_air m q (λ inside. true≢false (sym inside ∙ outside)) in
      absurd (true≢false (sym stands ∙ ap (is_of kind) air ∙ no_air kind))
]
