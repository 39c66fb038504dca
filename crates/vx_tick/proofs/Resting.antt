-- Where a map rests nothing changes and no piston moves, so a tick need not look there.
use Rattle.std.proofs.Common.{◌≡◌, ℕ, zero, suc, ◌<◌, ◌≤◌, Bool, true, false, cond, List, [], ◌∷◌, ◌++◌, Some, inl, inr, refl, sym, ap, ◌∙◌, subst, arith}
use Rattle.std.specs.List.{All, filter}
use Rattle.std.proofs.lemmas.List.Elements.{All-append, filter_passes}
use Rattle.std.proofs.lemmas.Bool.{cases_Bool, cases_eq, and_from, false≢true, or_parts, or_left, or_right}
use Rattle.vx_geom.specs.declared.pos.Pos.{Pos}
use Rattle.vx_geom.specs.Places.{positions}
use Rattle.vx_geom.specs.Sizes.{Sizes, AreSizes, is_inside, sector_count, sector_number, sector_of}
use Rattle.vx_block.specs.declared.cell.Cell.{Cell}
use Rattle.vx_block.specs.declared.cell.Cell.TheVariants as cell
use Rattle.vx_block.specs.Components.{is_component, is_device, is_dust}
use Rattle.vx_cells.specs.Listed.{components_on}
use Rattle.vx_cells.specs.Maps.{MapData, cell_on}
use Rattle.vx_cells.proofs.Indices.{numbered, number_below}
use Rattle.vx_cells.proofs.MapLemmas.{outside_is_air}
use Rattle.vx_power.specs.Laws.{dust_level}
use Rattle.vx_power.specs.Levels.{AreAllLevels, has}
use Rattle.vx_power.proofs.Feeding.{is_listed}
use Rattle.vx_power.proofs.Having.{has_filter, has_from, has_joined}
use Rattle.vx_part.specs.Changes.{changes}
use Rattle.vx_part.proofs.Changing.{components_change, kept_change}
use Rattle.vx_piston.specs.Moves.{is_restless, restless_as}
use Rattle.vx_piston.proofs.Restless.{others_stay}
use Rattle.vx_tick.specs.Pieces.{changed_in, restless_in, restless_up_to}
use Rattle.vx_tick.specs.Ticks.{asked, asked_up_to}
use Rattle.vx_tick.proofs.Asking.{asked_joined, kept_ask, changes_exact}
use Rattle.vx_still.specs.Waking.{IsSettled}

-- what is left out passes no test, so it may be left out before the test
pub kept_pass : (keep test : Pos → Bool) → ((p : Pos) → keep p ≡ false → test p ≡ false) → (ps : List Pos)
    → filter test (filter keep ps) ≡ filter test ps
kept_pass keep test none [] = refl
kept_pass keep test none (p ∷ ps) = by (keep p) refl (kept_pass keep test none ps)
  where
    by : (b : Bool) → keep p ≡ b → filter test (filter keep ps) ≡ filter test ps
        → filter test (cond b (p ∷ filter keep ps) (filter keep ps))
        ≡ cond (test p) (p ∷ filter test ps) (filter test ps)
    by true is rest = ap (λ qs. cond (test p) (p ∷ qs) qs) rest
    by false is rest = rest ∙ sym (ap (λ b. cond b (p ∷ filter test ps) (filter test ps)) (none p is))

-- what is no device is no piston that would move
still_as : (w : Pos → Cell) (level : Pos → ℕ) (p : Pos) (c : Cell) → is_device c ≡ false
    → restless_as w level p c ≡ false
still_as w level p (cell.Piston d sticky extended) is = cc
still_as w level p (cell.Torch facing lit) is = refl
still_as w level p (cell.Lever facing on) is = refl
still_as w level p (cell.Repeater r) is = refl
still_as w level p (cell.Lamp lamp) is = refl
still_as w level p cell.Air is = refl
still_as w level p cell.Stone is = refl
still_as w level p cell.Dirt is = refl
still_as w level p cell.Planks is = refl
still_as w level p cell.Glass is = refl
still_as w level p cell.Obsidian is = refl
still_as w level p cell.Bedrock is = refl
still_as w level p cell.Chest is = refl
still_as w level p (cell.Dust l) is = refl
still_as w level p (cell.Head facing sticky) is = refl

pub no_device_still : (w : Pos → Cell) (level : Pos → ℕ) (p : Pos) → is_device (w p) ≡ false
    → is_restless w level p ≡ false
unfolding is_restless
no_device_still w level p is = still_as w level p (w p) is

-- by levels that are those of the map, the same pistons would move
pub restless_exact : (m : MapData) (level : Pos → ℕ) (ps : List Pos) → AreAllLevels m level
    → filter (is_restless (cell_on m) level) ps
    ≡ filter (is_restless (cell_on m) (dust_level (cell_on m))) ps
restless_exact m level ps same = λ i. filter (is_restless (cell_on m) (λ p. same p i)) ps

-- what is no component is no device
no_device : (c : Cell) → is_component c ≡ false → is_device c ≡ false
no_device c is = (or_parts (is_dust c) (is_device c) is).1

module _ (m : MapData) (level : Pos → ℕ) (k : ℕ) (ps : List Pos) (exact : AreAllLevels m level)
    (listed : ps ≡ components_on m k) where
  -- the components of a sector that would move are all of the sector that would
  pub components_restless : filter (is_restless (cell_on m) level) ps ≡ restless_in m k
  unfolding components_on
  components_restless =
      restless_exact m level ps exact
      ∙ ap (filter (is_restless (cell_on m) (dust_level (cell_on m)))) listed
      ∙ kept_pass (λ p. is_component (cell_on m p)) (is_restless (cell_on m) (dust_level (cell_on m)))
      (λ p is. no_device_still (cell_on m) (dust_level (cell_on m)) p (no_device (cell_on m p) is))
      (positions m.sizes k)

  -- what changes among them is all that changes there
  pub components_changes : changes (cell_on m) level ps ≡ changed_in m k
  unfolding components_on
  components_changes =
      changes_exact m level ps exact
      ∙ ap (changes (cell_on m) (dust_level (cell_on m))) listed
      ∙ components_change (cell_on m) (dust_level (cell_on m)) (positions m.sizes k)

-- each that was found would move
pub found_restless : (m : MapData) (level : Pos → ℕ) (ps found : List Pos)
    → found ≡ filter (is_restless (cell_on m) level) ps
    → All (λ p. is_restless (cell_on m) level p ≡ true) found
found_restless m level ps found is =
    subst (All (λ p. is_restless (cell_on m) level p ≡ true)) (sym is)
    (filter_passes (is_restless (cell_on m) level) ps)

-- those that would move ask for all that any ask for
pub restless_ask : (m : MapData) (level : Pos → ℕ) (ps : List Pos)
    → asked m level (filter (is_restless (cell_on m) level) ps) ≡ asked m level ps
restless_ask m level = kept_ask m level (is_restless (cell_on m) level) (others_stay m level)

-- those of the first sectors that would move ask for all that any there ask for
pub all_restless_ask : (m : MapData) (n : ℕ)
    → asked m (dust_level (cell_on m)) (restless_up_to m n) ≡ asked_up_to m n
all_restless_ask m zero = refl
all_restless_ask m (suc n) =
    let level = dust_level (cell_on m) in
    asked_joined m level (restless_up_to m n) (restless_in m n)
    ∙ (λ i. all_restless_ask m n i ++ restless_ask m level (positions m.sizes n) i)

-- and each of them would
pub all_would_move : (m : MapData) (n : ℕ)
    → All (λ p. is_restless (cell_on m) (dust_level (cell_on m)) p ≡ true) (restless_up_to m n)
all_would_move m zero = found_restless m (dust_level (cell_on m)) [] [] refl
all_would_move m (suc n) =
    All-append (λ p. is_restless (cell_on m) (dust_level (cell_on m)) p ≡ true) (restless_up_to m n) (restless_in m n) (all_would_move m n)
    (filter_passes (is_restless (cell_on m) (dust_level (cell_on m))) (positions m.sizes n))

module _ (m : MapData) (level : Pos → ℕ) (exact : AreAllLevels m level) (keep : Pos → Bool)
    (settled : IsSettled m keep) (k : ℕ) (v : Sizes) (ps : List Pos) (sizes : v ≡ m.sizes)
    (kept : ps ≡ filter keep (positions v k)) where
  these : ps ≡ filter keep (positions m.sizes k)
  these = kept ∙ ap (λ v. filter keep (positions v k)) sizes

  -- what changes at these places of a sector is all that changes there
  pub kept_changes : changes (cell_on m) level ps ≡ changed_in m k
  kept_changes =
      changes_exact m level ps exact
      ∙ ap (changes (cell_on m) (dust_level (cell_on m))) these
      ∙ kept_change (cell_on m) (dust_level (cell_on m)) keep (λ p away. (settled p away).part)
      (positions m.sizes k)

  -- and those that would move are all of the sector that would
  pub kept_restless : filter (is_restless (cell_on m) level) ps ≡ restless_in m k
  kept_restless =
      restless_exact m level ps exact
      ∙ ap (filter (is_restless (cell_on m) (dust_level (cell_on m)))) these
      ∙ kept_pass keep (is_restless (cell_on m) (dust_level (cell_on m)))
      (λ p away. (settled p away).piston) (positions m.sizes k)

-- a piston that would move stands in the world
restless_inside : (m : MapData) (p : Pos)
    → is_restless (cell_on m) (dust_level (cell_on m)) p ≡ true → is_inside m.sizes p ≡ true
restless_inside m p restless = elim (cases_Bool (is_inside m.sizes p)) [
  | inl inside ↦ inside
  | inr outside ↦
      let air = outside_is_air m p (λ inside. false≢true (sym outside ∙ inside)) in
      absurd (false≢true
      (sym (no_device_still (cell_on m) (dust_level (cell_on m)) p (ap is_device air)) ∙ restless))
]

-- it is found in its sector
found_in : (m : MapData) (sizes : AreSizes m.sizes) (p : Pos) (k : ℕ) → sector_of m.sizes p ≡ Some k
    → is_inside m.sizes p ≡ true
    → is_restless (cell_on m) (dust_level (cell_on m)) p ≡ true → k < sector_count m.sizes
    → has (restless_in m k) p ≡ true
found_in m sizes p k held inside restless low =
    let test = is_restless (cell_on m) (dust_level (cell_on m)) in
    has_filter test (positions m.sizes k) p
    ∙ and_from (test p) (has (positions m.sizes k) p) restless
    (has_from (positions m.sizes k) p (is_listed m.sizes p k sizes inside held low))

-- so it is found among those of all sectors up to behind its own
found_up_to : (m : MapData) (sizes : AreSizes m.sizes) (p : Pos) (k : ℕ) → sector_of m.sizes p ≡ Some k
    → is_inside m.sizes p ≡ true
    → is_restless (cell_on m) (dust_level (cell_on m)) p ≡ true → (n : ℕ) → k < n
    → n ≤ sector_count m.sizes → has (restless_up_to m n) p ≡ true
found_up_to m sizes p k held inside restless zero less low = absurd (omega arith)
found_up_to m sizes p k held inside restless (suc n) less low =
    has_joined (restless_up_to m n) (restless_in m n) p
    ∙ elim (cases_eq k n) [
      | inl same ↦
          or_right (has (restless_up_to m n) p) (has (restless_in m n) p)
          (found_in m sizes p n (held ∙ ap Some same) inside restless (omega arith))
      | inr other ↦
          or_left (has (restless_up_to m n) p) (has (restless_in m n) p)
          (found_up_to m sizes p k held inside restless n (omega (arith, less, other)) (omega arith))
    ]

-- all pistons that would move are found
pub all_restless : (m : MapData) → AreSizes m.sizes → (p : Pos)
    → is_restless (cell_on m) (dust_level (cell_on m)) p ≡ true
    → has (restless_up_to m (sector_count m.sizes)) p ≡ true
all_restless m sizes p restless =
    let inside = restless_inside m p restless in
    let below = number_below m.sizes p sizes inside in
    found_up_to m sizes p (sector_number m.sizes p) (numbered m.sizes p inside) inside restless
    (sector_count m.sizes) below (omega arith)
