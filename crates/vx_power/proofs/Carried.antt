-- Levels of two graphs that agree near a place, and so the levels that spread within some columns.
use Rattle.std.proofs.Common.{◌≡◌, ℕ, zero, suc, ◌-◌, ◌≤◌, Bool, true, false, ◌&&◌, ◌||◌, if◌then◌else◌, List, [], ◌∷◌, ◌++◌, inl, inr, refl, sym, ap, ◌∙◌, arith}
use Rattle.std.specs.List.{list_any}
use Rattle.std.proofs.lemmas.Bool.{and_parts, and_from, cases_Bool, false≢true}
use Rattle.vx_geom.specs.declared.pos.Pos.{Pos}
use Rattle.vx_geom.specs.Sizes.{Sizes, AreSizes, is_below}
use Rattle.vx_block.specs.declared.cell.Cell.{Cell}
use Rattle.vx_block.specs.declared.side.Side.TheVariants.{East, West, South, North}
use Rattle.vx_block.specs.Components.{is_dust}
use Rattle.vx_cells.specs.Maps.{MapData, cell_on, far}
use Rattle.vx_cells.proofs.MapLemmas.{near_inside}
use Rattle.vx_power.specs.Dust.{links, links_on}
use Rattle.vx_power.specs.Levels.{is_in, columns_around, everywhere, AreLevels, AreAllLevels}
use Rattle.vx_power.specs.Signals.{has_feeder, is_fed}
use Rattle.vx_power.specs.Spreading.{fed_in, links_in, level_within}
use Rattle.vx_power.specs.Walks.{within, level_by, level_of, IsAmong}
use Rattle.vx_power.proofs.Around.{itself, wider, link_off}
use Rattle.vx_power.proofs.Stepping.{dust_inside}

-- two tests that agree on each element of a list
pub any_same : {X : Type 0} (f g : X → Bool) (xs : List X)
    → ((x : X) → IsAmong xs x → f x ≡ g x) → list_any f xs ≡ list_any g xs
any_same f g [] same = refl
any_same f g (x ∷ xs) same =
    ap (λ b. b || list_any f xs) (same x (inl refl))
    ∙ ap (λ b. g x || b) (any_same f g xs (λ y among. same y (inr among)))

-- two graphs that agree at each place that is deep enough: a link from depth n + 1 leads to depth n
module _ {X : Type 0}
    (fed_near : X → Bool) (links_near : X → List X) (fed : X → Bool) (links : X → List X)
    (Deep : ℕ → X → Type 0)
    (shallower : (n : ℕ) (p : X) → Deep (suc n) p → Deep n p)
    (fed_same : (p : X) → Deep 0 p → fed_near p ≡ fed p)
    (links_same : (n : ℕ) (p : X) → Deep (suc n) p → links_near p ≡ links p)
    (near : (n : ℕ) (p q : X) → Deep (suc n) p → IsAmong (links p) q → Deep n q)
  where
    -- walks of n links are the same from depth n
    within_carried : (n : ℕ) (p : X) → Deep n p
        → within fed_near links_near n p ≡ within fed links n p
    unfolding within
    within_carried zero p deep = fed_same p deep
    within_carried (suc n) p deep =
        ap (λ b. b || list_any (within fed_near links_near n) (links_near p))
        (within_carried n p (shallower n p deep))
        ∙ ap (λ qs. within fed links n p || list_any (within fed_near links_near n) qs)
        (links_same n p deep)
        ∙ ap (λ b. within fed links n p || b)
        (any_same (within fed_near links_near n) (within fed links n) (links p)
        (λ q among. within_carried n q (near n p q deep among)))

    -- and so are the levels that they tell
    pub level_by_carried : (n : ℕ) (p : X) → Deep n p
        → level_by fed_near links_near n p ≡ level_by fed links n p
    unfolding level_by
    level_by_carried zero p deep = ap (λ b. if b then 15 else 0) (fed_same p deep)
    level_by_carried (suc n) p deep =
        ap (λ b. if b
        then level_by fed_near links_near n p
        else if within fed_near links_near (suc n) p then 14 - n else 0)
        (within_carried n p (shallower n p deep))
        ∙ ap (λ b. if within fed links n p
        then level_by fed_near links_near n p
        else if b then 14 - n else 0)
        (within_carried (suc n) p deep)
        ∙ ap (λ level. if within fed links n p
        then level
        else if within fed links (suc n) p then 14 - n else 0)
        (level_by_carried n p (shallower n p deep))

    -- the level is that of the whole graph
    pub level_carried : (p : X) → Deep 14 p → level_of fed_near links_near p ≡ level_of fed links p
    unfolding level_of
    level_carried p deep = level_by_carried 14 p deep

-- from here walks of n links stay in the columns to which levels spread
abbrev pub IsDeep : Sizes → ℕ → ℕ → Pos → Type 0
IsDeep v k n p = (n ≤ 14) × (is_in (columns_around v k (16 - n)) p ≡ true)

module _ (w : Pos → Cell) (v : Sizes) (k : ℕ) where
  -- fewer links stay there as well
  deep_less : (n : ℕ) (p : Pos) → IsDeep v k (suc n) p → IsDeep v k n p
  deep_less n p deep =
      let few = deep.0 in (
        omega (arith, few),
        wider v k (16 - suc n) 0 (16 - n) p p (omega (arith, few)) (itself p) deep.1,
      )

  -- dust in the columns is fed as on the whole map
  deep_fed : (p : Pos) → IsDeep v k 0 p → fed_in w (is_in (columns_around v k 16)) p ≡ is_fed w p
  unfolding fed_in
  deep_fed p deep = ap (λ b. b && is_fed w p) deep.1

  -- and links as there, while one link stays in them
  deep_links : (n : ℕ) (p : Pos) → IsDeep v k (suc n) p
      → links_in w (is_in (columns_around v k 16)) p ≡ links w p
  unfolding links_in
  deep_links n p deep =
      ap (λ b. if b then links w p else [])
      (wider v k (16 - suc n) 0 16 p p (omega arith) (itself p) deep.1)

  -- from the next position one link less stays there
  deep_next : (n : ℕ) (p q : Pos) → IsDeep v k (suc n) p → IsAmong (links w p) q → IsDeep v k n q
  deep_next n p q deep linked =
      let few = deep.0 in (
        omega (arith, few),
        wider v k (16 - suc n) 1 (16 - n) p q (omega (arith, few)) (link_off w p q linked) deep.1,
      )

  -- two columns off a sector levels are those of the whole map
  near_levels : (p : Pos) → is_in (columns_around v k 2) p ≡ true
      → level_by (fed_in w (is_in (columns_around v k 16))) (links_in w (is_in (columns_around v k 16))) 14 p
      ≡ level_by (is_fed w) (links w) 14 p
  near_levels p near =
      level_by_carried (fed_in w (is_in (columns_around v k 16))) (links_in w (is_in (columns_around v k 16)))
      (is_fed w) (links w) (IsDeep v k) deep_less deep_fed deep_links deep_next
      14 p (omega arith, near)

-- what walks within the columns tell are the levels near the sector
pub told_near : (m : MapData) (k : ℕ) (level : Pos → ℕ)
    → ((p : Pos) → level p ≡ level_within (cell_on m) (is_in (columns_around m.sizes k 16)) p)
    → AreLevels m k level
unfolding level_of
told_near m k level known p near = known p ∙ near_levels (cell_on m) m.sizes k p near

module _ (m : MapData) (sizes : AreSizes m.sizes) where
  -- dust lies in some column
  dust_in : (p : Pos) → is_dust (cell_on m p) ≡ true → is_in everywhere p ≡ true
  dust_in p dust =
      let near = near_inside m.sizes p sizes (dust_inside m p dust) in
      let in_x = and_parts _ _ near in
      let in_z = and_parts _ _ in_x.1 in
      and_from (is_below p.x far) (is_below p.z far) in_x.0 in_z.1

  -- outside all columns nothing is dust
  no_dust : (p : Pos) → is_in everywhere p ≡ false → is_dust (cell_on m p) ≡ false
  no_dust p outside = elim (cases_Bool (is_dust (cell_on m p))) [
    | inl dust ↦ absurd (false≢true (sym outside ∙ dust_in p dust))
    | inr other ↦ other
  ]

  fed_everywhere : (p : Pos) → fed_in (cell_on m) (is_in everywhere) p ≡ is_fed (cell_on m) p
  unfolding fed_in is_fed
  fed_everywhere p = elim (cases_Bool (is_in everywhere p)) [
    | inl there ↦ ap (λ b. b && is_fed (cell_on m) p) there
    | inr outside ↦
        ap (λ b. b && is_fed (cell_on m) p) outside
        ∙ sym (ap (λ b. b && has_feeder (cell_on m) p) (no_dust p outside))
  ]

  links_everywhere : (p : Pos) → links_in (cell_on m) (is_in everywhere) p ≡ links (cell_on m) p
  unfolding links_in links
  links_everywhere p = elim (cases_Bool (is_in everywhere p)) [
    | inl there ↦ ap (λ b. if b then links (cell_on m) p else []) there
    | inr outside ↦
        ap (λ b. if b then links (cell_on m) p else []) outside
        ∙ sym (ap (λ b. if b
        then links_on (cell_on m) p East ++ (links_on (cell_on m) p West ++ (links_on (cell_on m) p South ++ links_on (cell_on m) p North))
        else [])
        (no_dust p outside))
  ]

  -- walks within all columns tell the levels of the map
  pub told_all : (level : Pos → ℕ) → ((p : Pos) → level p ≡ level_within (cell_on m) (is_in everywhere) p)
      → AreAllLevels m level
  unfolding level_of
  told_all level known p =
      known p
      ∙ level_by_carried (fed_in (cell_on m) (is_in everywhere)) (links_in (cell_on m) (is_in everywhere))
      (is_fed (cell_on m)) (links (cell_on m)) (λ n p. Unit {0}) (λ n p deep. tt)
      (λ p deep. fed_everywhere p) (λ n p deep. links_everywhere p) (λ n p q deep linked. tt)
      14 p tt
