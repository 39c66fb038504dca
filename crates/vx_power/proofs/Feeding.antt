-- The dust that devices near a sector feed is that which is fed in the columns around it, and the
-- dust that all devices feed is all that is fed.
use Rattle.std.proofs.Common.{◌≡◌, ℕ, zero, suc, ◌+◌, ◌-◌, ◌*◌, ◌/◌, ◌%◌, ◌<◌, ◌≤◌, inl, inr, Bool, true, false, ◌&&◌, min, unsigned_abs, pos, ℤ, ◌-ℤ◌, ◌≤ℤ◌, ◌<ℤ◌, Some, refl, sym, ap, ◌∙◌, subst, arith}
use Rattle.std.proofs.lemmas.Bool.{or_cases, or_left, or_right, cases_Bool, cases_eq, cases_lt, false≢true}
use Rattle.std.proofs.lemmas.Bool.Decides.{same_from_decides}
use Rattle.std.proofs.lemmas.Int.{ints}
use Rattle.std.proofs.Math.Nat.{mul-le-mul_left}
use Rattle.vx_geom.specs.declared.pos.Pos.{Pos}
use Rattle.vx_geom.specs.Places.{west, north, first_near, end_near, position_in_sector, positions_from, positions}
use Rattle.vx_geom.specs.Sizes.{Sizes, AreSizes, span, sector_count, sector_cells, is_inside, sector_number, sector_of, index_in_sector}
use Rattle.vx_geom.proofs.Divisions.{in_part}
use Rattle.vx_geom.proofs.Places.{indices_are_places}
use Rattle.vx_geom.proofs.SectorLemmas.{held_at, in_sector}
use Rattle.vx_block.specs.declared.cell.Cell.{Cell}
use Rattle.vx_block.specs.Components.{is_device}
use Rattle.vx_cells.specs.Listed.{devices_on}
use Rattle.vx_cells.specs.Maps.{MapData, AreSectors, cell_on}
use Rattle.vx_cells.proofs.Indices.{index_below, numbered}
use Rattle.vx_cells.proofs.MapLemmas.{outside_is_air}
use Rattle.vx_power.specs.declared.columns.Columns.{Columns}
use Rattle.vx_power.specs.Levels.{has, is_in, columns_around, everywhere}
use Rattle.vx_power.specs.Signals.{is_fed}
use Rattle.vx_power.specs.Spreading.{fed_by, fed_by_sectors, fed_from, fed_in, FeedAll}
use Rattle.vx_power.specs.Walks.{IsAmong}
use Rattle.vx_power.proofs.Around.{lies_in, wider}
use Rattle.vx_power.proofs.Feeders.{Feeds, feeds_at, from_feeds, feeds_fed, fed_feeds, feeds_off, feeds_device}
use Rattle.vx_power.proofs.Having.{all_at, all_from, among_filter, has_joined}

-- the position of each index is among those from an index on
among_from : (v : Sizes) (k index n i : ℕ) → index ≤ i → i < index + n
    → IsAmong (positions_from v k index n) (position_in_sector v k i)
among_from v k index zero i low high = absurd (omega arith)
among_from v k index (suc n) i low high = elim (cases_eq index i) [
  | inl same ↦ inl (ap (position_in_sector v k) same)
  | inr further ↦ inr (among_from v k (suc index) n i (omega arith) (omega arith))
]

-- a position inside is among those of its sector
pub is_listed : (v : Sizes) (p : Pos) (n : ℕ) → AreSizes v → is_inside v p ≡ true
    → sector_of v p ≡ Some n → n < sector_count v → IsAmong (positions v n) p
unfolding positions
is_listed v p n sizes inside held low =
    let i = index_in_sector v p in
    let most : i < sector_cells v = index_below v p sizes inside in
    subst (IsAmong (positions v n)) ((indices_are_places v n sizes low).found p held)
    (among_from v n 0 (sector_cells v) i (omega arith) (omega (arith, most)))

module _ (m : MapData) (sectors : AreSectors m.sizes m.sectors) where
  -- a device stands in the world
  device_inside : (s : Pos) → is_device (cell_on m s) ≡ true → is_inside m.sizes s ≡ true
  device_inside s device = elim (cases_Bool (is_inside m.sizes s)) [
    | inl inside ↦ inside
    | inr outside ↦
        let air = outside_is_air m s (λ inside. false≢true (sym outside ∙ inside)) in
        absurd (false≢true (sym (ap is_device air) ∙ device))
  ]

  -- a device is listed in its sector
  device_listed : (s : Pos) (n : ℕ) → is_device (cell_on m s) ≡ true → sector_of m.sizes s ≡ Some n
      → n < sector_count m.sizes → IsAmong (devices_on m n) s
  unfolding devices_on
  device_listed s n device held low =
      among_filter (λ p. is_device (cell_on m p)) (positions m.sizes n) s
      (is_listed m.sizes s n sectors.valid (device_inside s device) held low) device

-- a number that lies at most 18 off a part lies at most two parts off it
part_near : (w a b x : ℕ) → 16 ≤ w → w * a ≤ x → x < w * (a + 1) → w * b ≤ x + 18 → x < w * b + w + 18
    → (a ≤ b + 2) × (b ≤ a + 2)
part_near w a b x wide low high west east = (
  elim (cases_lt (b + 2) a) [
    | inl over ↦ let most = mul-le-mul_left w over in absurd (omega (arith, most))
    | inr fits ↦ fits
  ],
  elim (cases_lt (a + 2) b) [
    | inl under ↦ let most = mul-le-mul_left w under in absurd (omega (arith, most))
    | inr fits ↦ fits
  ],
)

-- a number at most two columns and two rows after another, where a row has n columns
two_off : (n a b c d : ℕ) → a ≤ c + 2 → b ≤ d + 2 → a + n * b ≤ c + n * d + 2 * (n + 1)
two_off n a b c d columns rows = let most = mul-le-mul_left n rows in omega (arith, most)

-- a border told in whole numbers, on the low side
low_natural : (a d x : ℕ) (c : ℤ) → c ≡ pos x → (pos a -ℤ pos d) ≤ℤ c → a ≤ x + d
low_natural a d x c is low = omega (arith, ints)

-- and on the high side
high_natural : (b x : ℕ) (c : ℤ) → c ≡ pos x → c <ℤ pos b → x < b
high_natural b x c is high = omega (arith, ints)

-- a position at most 18 columns off a sector is of one whose number is near
number_near : (v : Sizes) (k n : ℕ) (s : Pos) → AreSizes v
    → sector_of v s ≡ Some n → is_in (columns_around v k 18) s ≡ true
    → (first_near v k ≤ n) × (n < end_near v k)
number_near v k n s sizes same is =
    let w = span v in
    let wide : 16 ≤ w = omega (arith, sizes.s_least) in
    let x = unsigned_abs s.x in
    let z = unsigned_abs s.z in
    let held = held_at v s n sizes same in
    let lies = lies_in (columns_around v k 18) s is in
    let in_x = in_part w x (omega (arith, wide)) in
    let in_z = in_part w z (omega (arith, wide)) in
    let columns = part_near w (x / w) (k % v.sx) x wide in_x.0 in_x.1
    (low_natural (west v k) 18 x s.x held.inside.x_is lies.west)
    (high_natural (west v k + w + 18) x s.x held.inside.x_is lies.east) in
    let rows = part_near w (z / w) (k / v.sx) z wide in_z.0 in_z.1
    (low_natural (north v k) 18 z s.z held.inside.z_is lies.north)
    (high_natural (north v k + w + 18) z s.z held.inside.z_is lies.south) in
    let whole : k % v.sx + v.sx * (k / v.sx) ≡ k = omega arith in
    let most = two_off v.sx (x / w) (z / w) (k % v.sx) (k / v.sx) columns.0 rows.0 in
    let least = two_off v.sx (k % v.sx) (k / v.sx) (x / w) (z / w) columns.1 rows.1 in
    let below = (in_sector v s n sizes held).0 in
    from_bounds n k v.sx (sector_count v) (omega (arith, least, held.number, whole))
    (omega (arith, most, held.number, whole)) below
  where
    from_bounds : (n k sx count : ℕ) → k ≤ n + 2 * (sx + 1) → n ≤ k + 2 * (sx + 1) → n < count
        → (k - 2 * (sx + 1) ≤ n) × (n < min (k + 2 * (sx + 1) + 1) count)
    from_bounds n k sx count least most below = (omega arith, omega arith)

module _ (m : MapData) (w : Pos → Cell) where
  -- what devices of some sectors feed, one of them feeds
  sectors_at : (k n : ℕ) (p : Pos) → has (fed_by_sectors m w k n) p ≡ true
      → (s : Pos) × (has (fed_from w s) p ≡ true)
  sectors_at k zero p is = absurd (false≢true is)
  sectors_at k (suc n) p is =
      elim (or_cases (has (fed_by w (devices_on m k)) p) (has (fed_by_sectors m w (suc k) n) p)
      (sym (has_joined (fed_by w (devices_on m k)) (fed_by_sectors m w (suc k) n) p) ∙ is)) [
        | inl here ↦
            let found = all_at (fed_from w) (fed_by w) refl (λ _ _. refl) (devices_on m k) p here in
            (found.0, found.2)
        | inr further ↦ sectors_at (suc k) n p further
      ]

  -- what a device of one of them feeds is fed by them
  sectors_from : (k n i : ℕ) (s p : Pos) → k ≤ i → i < k + n → IsAmong (devices_on m i) s
      → has (fed_from w s) p ≡ true → has (fed_by_sectors m w k n) p ≡ true
  sectors_from k zero i s p low high among is = absurd (omega arith)
  sectors_from k (suc n) i s p low high among is =
      has_joined (fed_by w (devices_on m k)) (fed_by_sectors m w (suc k) n) p
      ∙ elim (cases_eq k i) [
        | inl here ↦ or_left _ _
            (all_from (fed_from w) (fed_by w) refl (λ _ _. refl) (devices_on m k) p s
            (subst (λ j. IsAmong (devices_on m j) s) (sym here) among) is)
        | inr further ↦ or_right (has (fed_by w (devices_on m k)) p) _
            (sectors_from (suc k) n i s p (omega arith) (omega arith) among is)
      ]

module _ (m : MapData) (sectors : AreSectors m.sizes m.sectors) where
  -- dust that devices of some sectors feed is fed
  to_fed : (first n : ℕ) (p : Pos) → has (fed_by_sectors m (cell_on m) first n) p ≡ true
      → is_fed (cell_on m) p ≡ true
  to_fed first n p is =
      let found = sectors_at m (cell_on m) first n p is in
      feeds_fed (cell_on m) found.0 p (feeds_at (cell_on m) found.0 p found.1)

  module _ (c : Columns) (first end : ℕ)
      (have : (s p : Pos) (n : ℕ) → is_in c p ≡ true → Feeds (cell_on m) s p
      → sector_of m.sizes s ≡ Some n → (first ≤ n) × (n < end)) where
    -- dust in columns whose feeders some sectors have is fed by them
    from_fed : (p : Pos) → is_in c p ≡ true → is_fed (cell_on m) p ≡ true
        → has (fed_by_sectors m (cell_on m) first (end - first)) p ≡ true
    from_fed p there fed =
        let w = cell_on m in
        let v = m.sizes in
        let feeder = fed_feeds w p fed in
        let s = feeder.0 in
        let n = sector_number v s in
        let device = feeds_device w s p feeder.1 in
        let held = numbered m.sizes s (device_inside m sectors s device) in
        let within = have s p n there feeder.1 held in
        let below = (in_sector v s n sectors.valid (held_at v s n sectors.valid held)).0 in
        sectors_from m w first (end - first) n s p within.0 (reached within.0 within.1)
        (device_listed m sectors s n device held below) (from_feeds w s p feeder.1)
      where
        reached : {n : ℕ} → first ≤ n → n < end → n < first + (end - first)
        reached least most = omega arith

    -- so it is all that is fed there
    feed_all : FeedAll m (is_in c) first end
    unfolding fed_in
    feed_all p = elim (cases_Bool (is_in c p)) [
      | inl there ↦
          let fed = has (fed_by_sectors m (cell_on m) first (end - first)) p in
          ap (λ b. is_in c p && b)
          (same_from_decides {P = is_fed (cell_on m) p ≡ true} fed (is_fed (cell_on m) p)
          (to_fed first (end - first) p, from_fed p there) (λ h. h, λ h. h))
      | inr outside ↦
          ap (λ b. b && has (fed_by_sectors m (cell_on m) first (end - first)) p) outside
          ∙ sym (ap (λ b. b && is_fed (cell_on m) p) outside)
    ]

  -- the devices near a sector feed all that is fed around it
  pub near_feed : (k : ℕ)
      → FeedAll m (is_in (columns_around m.sizes k 16)) (first_near m.sizes k) (end_near m.sizes k)
  near_feed k = feed_all (columns_around m.sizes k 16) (first_near m.sizes k) (end_near m.sizes k)
      (λ s p n there feeds held. number_near m.sizes k n s sectors.valid held
      (wider m.sizes k 16 2 18 p s (omega arith) (feeds_off (cell_on m) s p feeds) there))

  -- and those of all sectors all that is fed
  pub all_feed : FeedAll m (is_in everywhere) 0 (sector_count m.sizes)
  all_feed = feed_all everywhere 0 (sector_count m.sizes)
      (λ s p n there feeds held.
      (omega arith, (in_sector m.sizes s n sectors.valid (held_at m.sizes s n sectors.valid held)).0))

-- where devices feed all that is fed inside, it is fed where they feed it
pub all_fed : (m : MapData) (inside : Pos → Bool) (first end : ℕ) → FeedAll m inside first end
    → (p : Pos) → inside p ≡ true
    → has (fed_by_sectors m (cell_on m) first (end - first)) p ≡ fed_in (cell_on m) inside p
all_fed m inside first end feed p there =
    sym (ap (λ b. b && has (fed_by_sectors m (cell_on m) first (end - first)) p) there) ∙ feed p

-- and nothing outside is fed there
pub none_fed : (w : Pos → Cell) (inside : Pos → Bool) (p : Pos) → inside p ≡ false → fed_in w inside p ≡ false
unfolding fed_in
none_fed w inside p outside = ap (λ b. b && is_fed w p) outside
