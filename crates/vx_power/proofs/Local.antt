-- How far the signals at a position see: each from the cells that so many steps lead to.
use Rattle.std.proofs.Common.{◌≡◌, ℕ, zero, suc, true, not, ◌&&◌, ◌||◌, nat_lt, List, [], ◌∷◌, ◌++◌, if◌then◌else◌, inl, inr, Option, refl, sym, ap, ◌∙◌, subst}
use Rattle.std.specs.List.{list_any}
use Rattle.std.proofs.lemmas.Bool.{cases_Bool}
use Rattle.vx_geom.specs.declared.pos.Pos.{Pos}
use Rattle.vx_geom.specs.declared.dir.Dir.{Dir}
use Rattle.vx_geom.specs.declared.dir.Dir.TheVariants.{East, West, Up, Down, South, North}
use Rattle.vx_geom.specs.Dirs.{all_dirs, opposite}
use Rattle.vx_geom.specs.Neighbor.{neighbor}
use Rattle.vx_block.specs.declared.cell.Cell.{Cell}
use Rattle.vx_block.specs.declared.side.Side.{Side}
use Rattle.vx_block.specs.declared.side.Side.TheVariants as side
use Rattle.vx_block.specs.Components.{is_dust}
use Rattle.vx_block.specs.Conductors.{conducts}
use Rattle.vx_block.specs.Sides.{side_back, side_right}
use Rattle.vx_block.specs.States.{side_dir}
use Rattle.vx_cells.specs.Maps.{MapData, cell_on}
use Rattle.vx_power.specs.Dust.{beside, over, under, links_beside, links_up, links_down, links_on, links, is_joined, joins, points}
use Rattle.vx_power.specs.Laws.{dust_level}
use Rattle.vx_power.specs.Levels.{AreAllLevels}
use Rattle.vx_power.specs.Local.{around, within_steps, AreAlike, shown, ShowAlike, DustSees, PowerSees, ActivitySees, DustSeesShown, PowerSeesShown, ActivitySeesShown, AreLevelsNear}
use Rattle.vx_power.specs.Signals.{gives, drives_from, is_driven, is_strong, feeds_from, has_feeder, is_fed, reaches, dust_powers, is_dust_powered, is_powered, activates, is_front, is_active}
use Rattle.vx_power.specs.Turning.{turned_on, built, BuiltAlike, EachHeeded, ShowHeeded, has_power, PowerHeeded, LinksSeeBuilt, ActivityHeeds}
use Rattle.vx_power.specs.Walks.{IsAmong}
use Rattle.vx_power.proofs.Linking.{among_left, among_right}
use Rattle.vx_power.proofs.Showing.{same_giver, same_driver, built_dust, built_conductor, built_joined}

-- the two have the same at p, and wherever so many steps lead from it
abbrev pub Near : {X : Type 0} → ℕ → Pos → (Pos → X) → (Pos → X) → Type 0
Near zero p f g = f p ≡ g p
Near (suc n) p f g = Near n p f g × ((d : Dir) → Near n (neighbor p d) f g)

-- each direction is one of the six
pub one_of_six : (d : Dir) → IsAmong all_dirs d
one_of_six East = inl refl
one_of_six West = inr (inl refl)
one_of_six Up = inr (inr (inl refl))
one_of_six Down = inr (inr (inr (inl refl)))
one_of_six South = inr (inr (inr (inr (inl refl))))
one_of_six North = inr (inr (inr (inr (inr (inl refl)))))

pub among_around : (f : Pos → List Pos) (p q : Pos) (ds : List Dir) (d : Dir)
    → IsAmong ds d → IsAmong (f (neighbor p d)) q → IsAmong (around f p ds) q
among_around f p q [] d none there = absurd none
among_around f p q (e ∷ ds) d (inl same) there =
    among_left (f (neighbor p e)) (around f p ds) q (subst (λ e. IsAmong (f (neighbor p e)) q) (sym same) there)
among_around f p q (e ∷ ds) d (inr further) there =
    among_right (f (neighbor p e)) (around f p ds) q (among_around f p q ds d further there)

module _ {X : Type 0} (f g : Pos → X) where
  pub near_from : (n : ℕ) (p : Pos) → AreAlike (within_steps n p) f g → Near n p f g
  near_from zero p alike = alike p (inl refl)
  near_from (suc n) p alike = (
    near_from n p (λ q among. alike q (among_left (within_steps n p) (around (within_steps n) p all_dirs) q among)),
    λ d. near_from n (neighbor p d) (λ q among. alike q
        (among_right (within_steps n p) (around (within_steps n) p all_dirs) q
        (among_around (within_steps n) p q all_dirs d (one_of_six d) among))),
  )

  pub here : (n : ℕ) (p : Pos) → Near n p f g → f p ≡ g p
  here zero p near = near
  here (suc n) p near = here n p near.0

-- the two maps show the same at p, and wherever so many steps lead from it
abbrev pub Shows : ℕ → Pos → (Pos → Cell) → (Pos → Cell) → Type 0
Shows n p w v = Near n p (λ q. shown (w q)) (λ q. shown (v q))

-- as they do where they have the same
pub shows : (w v : Pos → Cell) (n : ℕ) (p : Pos) → Near n p w v → Shows n p w v
shows w v zero p near = ap shown near
shows w v (suc n) p near = (shows w v n p near.0, λ d. shows w v n (neighbor p d) (near.1 d))

-- maps that show alike at a list of positions
pub shows_from : (w v : Pos → Cell) (n : ℕ) (p : Pos) → ShowAlike (within_steps n p) w v → Shows n p w v
shows_from w v = near_from (λ q. shown (w q)) (λ q. shown (v q))

-- the two maps are built alike at p, and wherever so many steps lead from it
abbrev pub Builds : ℕ → Pos → (Pos → Cell) → (Pos → Cell) → Type 0
Builds n p w v = Near n p (λ q. built (w q)) (λ q. built (v q))

-- as they are where they show the same
pub builds : (w v : Pos → Cell) (n : ℕ) (p : Pos) → Shows n p w v → Builds n p w v
builds w v zero p near = ap turned_on near
builds w v (suc n) p near = (builds w v n p near.0, λ d. builds w v n (neighbor p d) (near.1 d))

-- maps that are built alike at a list of positions
pub builds_from : (w v : Pos → Cell) (n : ℕ) (p : Pos) → BuiltAlike (within_steps n p) w v → Builds n p w v
builds_from w v = near_from (λ q. built (w q)) (λ q. built (v q))

-- what holds of each position that is heeded holds so by whatever it leads to
pub each_weaker : {P Q : Pos → Type 0} (w : Pos → Cell) (p : Pos) → ((q : Pos) → P q → Q q) → EachHeeded w p P
    → EachHeeded w p Q
each_weaker w p weaker each = record {
  own = weaker p each.own;
  beside = λ d. weaker (neighbor p d) (each.beside d);
  through = λ d e is. weaker (neighbor (neighbor p d) e) (each.through d e is);
}

-- what is heeded lies within two steps
pub each_near : {X : Type 0} (w : Pos → Cell) (f g : Pos → X) (p : Pos) → Near 2 p f g
    → EachHeeded w p (λ q. f q ≡ g q)
each_near w f g p near = record {
  own = here f g 2 p near;
  beside = λ d. here f g 1 (neighbor p d) (near.1 d);
  through = λ d e is. (near.1 d).1 e;
}

-- where levels are the same there, the same dust has power
pub power_near : (w : Pos → Cell) (a b : Pos → ℕ) (p : Pos) → Near 2 p a b → PowerHeeded w a b p
power_near w a b p near = each_weaker w p (λ q same. ap (nat_lt 0) same) (each_near w a b p near)

module _ (w v : Pos → Cell) where
  -- what is shown at p
  at : (n : ℕ) (p : Pos) → Shows n p w v → shown (w p) ≡ shown (v p)
  at = here (λ q. shown (w q)) (λ q. shown (v q))

  -- how the cell at p is built
  built_at : (n : ℕ) (p : Pos) → Builds n p w v → built (w p) ≡ built (v p)
  built_at = here (λ q. built (w q)) (λ q. built (v q))

  dust : (n : ℕ) (p : Pos) → Builds n p w v → is_dust (w p) ≡ is_dust (v p)
  dust n p near = built_dust (w p) (v p) (built_at n p near)

  conductor : (n : ℕ) (p : Pos) → Builds n p w v → conducts (w p) ≡ conducts (v p)
  conductor n p near = built_conductor (w p) (v p) (built_at n p near)

  joined : (n : ℕ) (p : Pos) (s : Side) → Builds n p w v → is_joined s (w p) ≡ is_joined s (v p)
  joined n p s near = built_joined (w p) (v p) s (built_at n p near)

  giver : (n : ℕ) (p : Pos) (d : Dir) → Shows n p w v → gives (w p) d ≡ gives (v p) d
  giver n p d near = same_giver (w p) (v p) d (at n p near)

  links_beside_same : (p : Pos) (s : Side) → Builds 2 p w v → links_beside w p s ≡ links_beside v p s
  unfolding links_beside
  links_beside_same p s near = λ i. dust 1 (beside p s) (near.1 (side_dir s)) i

  links_up_same : (p : Pos) (s : Side) → Builds 2 p w v → links_up w p s ≡ links_up v p s
  unfolding links_up
  links_up_same p s near =
      λ i. dust 0 (over (beside p s)) ((near.1 (side_dir s)).1 Up) i && not (conductor 1 (over p) (near.1 Up) i)

  links_down_same : (p : Pos) (s : Side) → Builds 2 p w v → links_down w p s ≡ links_down v p s
  unfolding links_down
  links_down_same p s near =
      λ i. dust 0 (under (beside p s)) ((near.1 (side_dir s)).1 Down) i && not (conductor 1 (beside p s) (near.1 (side_dir s)) i)

  links_on_same : (p : Pos) (s : Side) → Builds 2 p w v → links_on w p s ≡ links_on v p s
  unfolding links_on
  links_on_same p s near = λ i.
      (if links_beside_same p s near i then beside p s ∷ [] else [])
      ++ ((if links_up_same p s near i then over (beside p s) ∷ [] else [])
      ++ (if links_down_same p s near i then under (beside p s) ∷ [] else []))

  pub links_same : (p : Pos) → Builds 2 p w v → links w p ≡ links v p
  unfolding links
  links_same p near = λ i.
      if dust 2 p near i
      then links_on_same p side.East near i ++ (links_on_same p side.West near i
      ++ (links_on_same p side.South near i ++ links_on_same p side.North near i))
      else []

  joins_same : (p : Pos) (s : Side) → Builds 2 p w v → joins w p s ≡ joins v p s
  unfolding joins
  joins_same p s near = λ i.
      links_beside_same p s near i || links_up_same p s near i || links_down_same p s near i
      || joined 1 (beside p s) s (near.1 (side_dir s)) i

  points_same : (p : Pos) (s : Side) → Builds 2 p w v → points w p s ≡ points v p s
  unfolding points
  points_same p s near = λ i.
      joins_same p s near i
      || not (joins_same p (side_right s) near i || joins_same p (side_back (side_right s)) near i)

  -- what drives p shows so from beside it
  is_driven_same : (p : Pos) → ((d : Dir) → shown (w (neighbor p d)) ≡ shown (v (neighbor p d))) → is_driven w p ≡ is_driven v p
  unfolding is_driven drives_from
  is_driven_same p same = λ i.
      list_any (λ d. same_driver (w (neighbor p d)) (v (neighbor p d)) (opposite d) (same d) i) all_dirs

  is_strong_same : (p : Pos) → Shows 1 p w v → is_strong w p ≡ is_strong v p
  unfolding is_strong
  is_strong_same p near = λ i.
      conductor 1 p (builds w v 1 p near) i && is_driven_same p (λ d. at 0 (neighbor p d) (near.1 d)) i

  feeds_from_same : (p : Pos) (d : Dir) → Shows 2 p w v → feeds_from w p d ≡ feeds_from v p d
  unfolding feeds_from
  feeds_from_same p d near = λ i.
      giver 1 (neighbor p d) (opposite d) (near.1 d) i || is_strong_same (neighbor p d) (near.1 d) i

  pub is_fed_same : (p : Pos) → Shows 2 p w v → is_fed w p ≡ is_fed v p
  unfolding is_fed has_feeder
  is_fed_same p near = λ i.
      dust 2 p (builds w v 2 p near) i && list_any (λ d. feeds_from_same p d near i) all_dirs

  reaches_same : (n : Pos) (d : Dir) → Builds 2 n w v → reaches w n d ≡ reaches v n d
  reaches_same n East near = points_same n side.West near
  reaches_same n West near = points_same n side.East near
  reaches_same n Up near = refl
  reaches_same n Down near = refl
  reaches_same n South near = points_same n side.North near
  reaches_same n North near = points_same n side.South near

  module _ (a b : Pos → ℕ) where
    dust_powers_same : (p : Pos) (d : Dir) → Builds 3 p w v → has_power a (neighbor p d) ≡ has_power b (neighbor p d)
        → dust_powers w a p d ≡ dust_powers v b p d
    unfolding dust_powers
    dust_powers_same p d near power = λ i.
        dust 2 (neighbor p d) (near.1 d) i && power i && reaches_same (neighbor p d) d (near.1 d) i

    -- what stands beside p is heeded where p conducts
    pub is_powered_same : (p : Pos) → Builds 3 p w v
        → (conducts (w p) ≡ true → (d : Dir) → shown (w (neighbor p d)) ≡ shown (v (neighbor p d)))
        → (conducts (w p) ≡ true → (d : Dir) → has_power a (neighbor p d) ≡ has_power b (neighbor p d))
        → is_powered w a p ≡ is_powered v b p
    unfolding is_powered is_dust_powered
    is_powered_same p near shows powers = elim (cases_Bool (conducts (w p))) [
      | inl is ↦ λ i.
          conductor 3 p near i
          && (is_driven_same p (shows is) i || list_any (λ d. dust_powers_same p d near (powers is d) i) all_dirs)
      | inr isnt ↦
          ap (λ c. c && (is_driven w p || list_any (dust_powers w a p) all_dirs)) isnt
          ∙ sym (ap (λ c. c && (is_driven v p || list_any (dust_powers v b p) all_dirs)) (sym (conductor 3 p near) ∙ isnt))
    ]

    pub activates_same : (p : Pos) (d : Dir) → Builds 4 p w v → ShowHeeded w v p → PowerHeeded w a b p
        → activates w a p d ≡ activates v b p d
    unfolding activates
    activates_same p d near shows powers = λ i.
        same_giver (w (neighbor p d)) (v (neighbor p d)) (opposite d) (shows.beside d) i
        || is_powered_same (neighbor p d) (near.1 d) (λ is e. shows.through d e is) (λ is e. powers.through d e is) i
        || dust_powers_same p d near.0 (powers.beside d) i

    pub is_active_same : (front : Option Dir) (p : Pos) → Builds 4 p w v → ShowHeeded w v p → PowerHeeded w a b p
        → is_active w a front p ≡ is_active v b front p
    unfolding is_active
    is_active_same front p near shows powers = λ i.
        list_any (λ d. not (is_front front d) && activates_same p d near shows powers i) all_dirs

pub links_see_built : LinksSeeBuilt
links_see_built w v p alike = links_same w v p (builds_from w v 2 p alike)

pub activity_heeds : ActivityHeeds
activity_heeds w v a b front p cells = is_active_same w v a b front p (builds_from w v 4 p cells)

pub dust_sees_shown : DustSeesShown
dust_sees_shown w v p alike =
    let near = shows_from w v 2 p alike in (is_fed_same w v p near, links_same w v p (builds w v 2 p near))

pub power_sees_shown : PowerSeesShown
power_sees_shown w v a b p cells levels =
    let near = shows_from w v 3 p cells in
    let levels = near_from a b 1 p levels in
    is_powered_same w v a b p (builds w v 3 p near) (λ _ d. at w v 2 (neighbor p d) (near.1 d))
    (λ _ d. ap (nat_lt 0) (levels.1 d))

pub activity_sees_shown : ActivitySeesShown
activity_sees_shown w v a b front p cells levels =
    let near = shows_from w v 4 p cells in
    is_active_same w v a b front p (builds w v 4 p near)
    (each_near w (λ q. shown (w q)) (λ q. shown (v q)) p near.0.0) (power_near w a b p (near_from a b 2 p levels))

-- what is the same shows the same
alike_shown : (w v : Pos → Cell) (ps : List Pos) → AreAlike ps w v → ShowAlike ps w v
alike_shown w v ps alike q among = ap shown (alike q among)

pub dust_sees : DustSees
dust_sees w v p alike = dust_sees_shown w v p (alike_shown w v (within_steps 2 p) alike)

pub power_sees : PowerSees
power_sees w v a b p cells levels =
    power_sees_shown w v a b p (alike_shown w v (within_steps 3 p) cells) levels

pub activity_sees : ActivitySees
activity_sees w v a b front p cells levels =
    activity_sees_shown w v a b front p (alike_shown w v (within_steps 4 p) cells) levels

-- the levels of all dust of a map are those near each position
pub all_near : (m : MapData) (level : Pos → ℕ) → AreAllLevels m level → (n : ℕ) (p : Pos)
    → AreLevelsNear (cell_on m) n p level
unfolding AreLevelsNear
all_near m level same n p q among = same q

-- power and activity by the levels near a position are those of the map
pub power_by : (w : Pos → Cell) (level : Pos → ℕ) (p : Pos) → AreLevelsNear w 1 p level
    → is_powered w level p ≡ is_powered w (dust_level w) p
unfolding AreLevelsNear
power_by w level p near = power_sees w w level (dust_level w) p (λ q among. refl) near

pub activity_by : (w : Pos → Cell) (level : Pos → ℕ) (front : Option Dir) (p : Pos) → AreLevelsNear w 2 p level
    → is_active w level front p ≡ is_active w (dust_level w) front p
unfolding AreLevelsNear
activity_by w level front p near =
    activity_sees w w level (dust_level w) front p (λ q among. refl) near
