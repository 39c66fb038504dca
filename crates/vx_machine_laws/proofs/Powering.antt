-- What gives, drives and makes active, case by case.
use Rattle.std.proofs.Common.{◌≡◌, ℕ, Bool, true, not, ◌&&◌, ◌||◌, ◌⊎◌, inl, inr, nat_lt, Some, None, refl, sym, ap, ◌∙◌, subst}
use Rattle.std.proofs.lemmas.Bool.{and_parts, and_from, or_cases, or_left, or_right, false≢true}
use Rattle.vx_geom.specs.declared.pos.Pos.{Pos}
use Rattle.vx_geom.specs.declared.dir.Dir.{Dir}
use Rattle.vx_geom.specs.declared.dir.Dir.TheVariants.{East, West, Up, Down, South, North}
use Rattle.vx_geom.specs.Dirs.{opposite, same_dir}
use Rattle.vx_geom.specs.Neighbor.{neighbor}
use Rattle.vx_geom.proofs.Positions.{there_and_back}
use Rattle.vx_block.specs.declared.side.Side.{Side}
use Rattle.vx_block.specs.declared.side.Side.TheVariants as side
use Rattle.vx_block.specs.declared.cell.Cell.{Cell}
use Rattle.vx_block.specs.declared.cell.Cell.TheVariants.{Dust, Torch, Lever, Repeater}
use Rattle.vx_block.specs.Components.{is_dust}
use Rattle.vx_block.specs.Conductors.{conducts}
use Rattle.vx_block.specs.States.{mount_dir, side_dir}
use Rattle.vx_power.specs.Dust.{points}
use Rattle.vx_power.specs.Signals.{gives, drives, drives_from, is_driven, is_strong, feeds_from, has_feeder, is_fed, reaches, dust_powers, is_dust_powered, is_powered, activates, is_front, is_active}
use Rattle.vx_machine_laws.specs.Signals.{IsRepeaterOn, Gives, Drives, IsDriven, IsStrong, IsDust, GivesTo, IsFed, DustReaches, IsPowered, Activates, GiversAreThese, DriversAreThese, StrongAreThese, FedAreThese, PoweredAreThese, ActivatorsAreThese, ActiveLampsAreThese, ActivePistonsAreThese}
use Rattle.vx_machine_laws.proofs.Deciding.{same_at, same_from, other_at, other_from, back_twice, some_at, some_from, way_back, leads_back, over_at, over_from}

-- what gives
pub gives_at : (c : Cell) (d : Dir) → gives c d ≡ true → Gives c d
gives_at (Torch facing lit) d is =
    let parts = and_parts lit (not (same_dir (mount_dir facing) d)) is in
    inl (facing, ap (λ b. Torch facing b) parts.0, other_at (mount_dir facing) d parts.1)
gives_at (Lever facing on) d is = inr (inl (facing, ap (λ b. Lever facing b) is))
gives_at (Repeater r) d is =
    let parts = and_parts r.on (same_dir (side_dir r.facing) d) is in
    inr (inr (r, refl, parts.0, same_at (side_dir r.facing) d parts.1))
gives_at _ d is = absurd (false≢true is)

repeater_on : (c : Cell) (d : Dir) (test : Cell → Dir → Bool)
    → ((r : _) → test (Repeater r) d ≡ (r.on && same_dir (side_dir r.facing) d))
    → IsRepeaterOn c d → test c d ≡ true
repeater_on c d test by r =
    ap (λ c. test c d) r.1 ∙ by r.0 ∙ and_from r.0.on (same_dir (side_dir r.0.facing) d) r.2 (same_from (side_dir r.0.facing) d r.3)

pub gives_from : (c : Cell) (d : Dir) → Gives c d → gives c d ≡ true
gives_from c d (inl torch) =
    ap (λ c. gives c d) torch.1 ∙ other_from (mount_dir torch.0) d torch.2
gives_from c d (inr (inl lever)) = ap (λ c. gives c d) lever.1
gives_from c d (inr (inr r)) = repeater_on c d gives (λ r. refl) r

-- what drives
pub drives_at : (c : Cell) (d : Dir) → drives c d ≡ true → Drives c d
drives_at (Torch facing lit) d is =
    let parts = and_parts lit (same_dir d Up) is in
    inl (facing, ap (λ b. Torch facing b) parts.0, same_at d Up parts.1)
drives_at (Lever facing on) d is =
    let parts = and_parts on (same_dir facing d) is in
    inr (inl (ap (λ b. Lever facing b) parts.0 ∙ ap (λ f. Lever f true) (same_at facing d parts.1)))
drives_at (Repeater r) d is =
    let parts = and_parts r.on (same_dir (side_dir r.facing) d) is in
    inr (inr (r, refl, parts.0, same_at (side_dir r.facing) d parts.1))
drives_at _ d is = absurd (false≢true is)

pub drives_from_case : (c : Cell) (d : Dir) → Drives c d → drives c d ≡ true
drives_from_case c d (inl torch) =
    ap (λ c. drives c d) torch.1 ∙ same_from d Up torch.2
drives_from_case c d (inr (inl lever)) = ap (λ c. drives c d) lever ∙ same_from d d refl
drives_from_case c d (inr (inr r)) = repeater_on c d drives (λ r. refl) r

pub givers_are_these : GiversAreThese
givers_are_these c d = record { only = gives_at c d; all = gives_from c d }

pub drivers_are_these : DriversAreThese
drivers_are_these c d = record { only = drives_at c d; all = drives_from_case c d }

module _ (w : Pos → Cell) where
  -- a test of what stands at q, as p asks it
  as_asked : (test : Cell → Dir → Bool) (p q : Pos) (d : Dir) → neighbor q d ≡ p → test (w q) d ≡ true
      → test (w (neighbor p (opposite d))) (opposite (opposite d)) ≡ true
  as_asked test p q d at is =
      ap (λ r. test (w r) (opposite (opposite d))) (way_back p q d at)
      ∙ ap (test (w q)) (back_twice d) ∙ is

  module _ (p : Pos) where
    -- what drives p stands beside it
    driven_by : (d : Dir) → Drives (w (neighbor p d)) (opposite d) → IsDriven w p
    driven_by d (inl torch) =
        let below : d ≡ Down = sym (back_twice d) ∙ ap opposite torch.2 in
        inl (torch.0, ap (λ d. w (neighbor p d)) (sym below) ∙ torch.1)
    driven_by d (inr (inl lever)) =
        inr (inl (neighbor p d, opposite d, lever, there_and_back p d))
    driven_by d (inr (inr r)) =
        inr (inr (neighbor p d, r.0, r.1, r.2, ap (neighbor (neighbor p d)) r.3 ∙ there_and_back p d))

    pub driven_at : is_driven w p ≡ true → IsDriven w p
    unfolding is_driven drives_from
    driven_at is =
        let at = some_at (drives_from w p) is in
        driven_by at.0 (drives_at (w (neighbor p at.0)) (opposite at.0) at.1)

    from_beside : (q : Pos) (d : Dir) → neighbor q d ≡ p → drives (w q) d ≡ true → is_driven w p ≡ true
    unfolding is_driven drives_from
    from_beside q d at is = some_from (drives_from w p) (opposite d) (as_asked drives p q d at is)

    pub driven_from : IsDriven w p → is_driven w p ≡ true
    driven_from (inl torch) =
        from_beside (neighbor p Down) Up (there_and_back p Down)
        (drives_from_case (w (neighbor p Down)) Up (inl (torch.0, torch.1, refl)))
    driven_from (inr (inl lever)) =
        from_beside lever.0 lever.1 lever.3 (drives_from_case (w lever.0) lever.1 (inr (inl lever.2)))
    driven_from (inr (inr r)) =
        from_beside r.0 (side_dir r.1.facing) r.4
        (drives_from_case (w r.0) (side_dir r.1.facing) (inr (inr (r.1, r.2, r.3, refl))))

    pub strong_at : is_strong w p ≡ true → IsStrong w p
    unfolding is_strong
    strong_at is =
        let parts = and_parts (conducts (w p)) (is_driven w p) is in
        (parts.0, driven_at parts.1)

    pub strong_from : IsStrong w p → is_strong w p ≡ true
    unfolding is_strong
    strong_from is = and_from (conducts (w p)) (is_driven w p) is.0 (driven_from is.1)

    -- what gives to p from a direction
    given_at : (d : Dir) → gives (w (neighbor p d)) (opposite d) ≡ true → GivesTo w (neighbor p d) p
    given_at d is = (opposite d, there_and_back p d, gives_at (w (neighbor p d)) (opposite d) is)

    given_from : (d : Dir) → GivesTo w (neighbor p d) p → gives (w (neighbor p d)) (opposite d) ≡ true
    given_from d to =
        gives_from (w (neighbor p d)) (opposite d)
        (subst (Gives (w (neighbor p d))) (leads_back p d to.0 to.1) to.2)

pub dust_at : (c : Cell) → is_dust c ≡ true → IsDust c
dust_at (Dust stored) is = (stored, refl)
dust_at _ is = absurd (false≢true is)

pub dust_from : (c : Cell) → IsDust c → is_dust c ≡ true
dust_from c dust = ap is_dust dust.1

module _ (w : Pos → Cell) (p : Pos) where
  fed_by : (d : Dir) → feeds_from w p d ≡ true → GivesTo w (neighbor p d) p ⊎ IsStrong w (neighbor p d)
  unfolding feeds_from
  fed_by d is = elim (or_cases (gives (w (neighbor p d)) (opposite d)) (is_strong w (neighbor p d)) is) [
    | inl gives ↦ inl (given_at w p d gives)
    | inr strong ↦ inr (strong_at w (neighbor p d) strong)
  ]

  by_fed : (d : Dir) → GivesTo w (neighbor p d) p ⊎ IsStrong w (neighbor p d) → feeds_from w p d ≡ true
  unfolding feeds_from
  by_fed d (inl to) =
      or_left (gives (w (neighbor p d)) (opposite d)) (is_strong w (neighbor p d)) (given_from w p d to)
  by_fed d (inr strong) =
      or_right (gives (w (neighbor p d)) (opposite d)) (is_strong w (neighbor p d)) (strong_from w (neighbor p d) strong)

  fed_at : is_fed w p ≡ true → IsFed w p
  unfolding is_fed has_feeder
  fed_at is =
      let parts = and_parts (is_dust (w p)) (has_feeder w p) is in
      let at = some_at (feeds_from w p) parts.1 in
      (dust_at (w p) parts.0, (at.0, fed_by at.0 at.1))

  fed_from : IsFed w p → is_fed w p ≡ true
  unfolding is_fed has_feeder
  fed_from fed =
      and_from (is_dust (w p)) (has_feeder w p) (dust_from (w p) fed.0)
      (some_from (feeds_from w p) fed.1.0 (by_fed fed.1.0 fed.1.1))

pub strong_are_these : StrongAreThese
strong_are_these w p = record { only = strong_at w p; all = strong_from w p }

pub fed_are_these : FedAreThese
fed_are_these w p = record { only = fed_at w p; all = fed_from w p }

-- dust that reaches
module _ (w : Pos → Cell) (p : Pos) where
  -- it lies on p, or beside it and points at it
  abbrev LiesSo : Pos → Type 0
  LiesSo q = (neighbor q Down ≡ p)
      ⊎ ((side : Side) × (neighbor q (side_dir side) ≡ p) × (points w q side ≡ true))

  reaches_at : (d : Dir) → reaches w (neighbor p d) d ≡ true → LiesSo (neighbor p d)
  reaches_at Up is = inl (there_and_back p Up)
  reaches_at Down is = absurd (false≢true is)
  reaches_at East is = inr (side.West, there_and_back p East, is)
  reaches_at West is = inr (side.East, there_and_back p West, is)
  reaches_at South is = inr (side.North, there_and_back p South, is)
  reaches_at North is = inr (side.South, there_and_back p North, is)

  -- dust points at p on the side that leads there
  pointing : (d : Dir) (s : Side) → side_dir s ≡ opposite d → points w (neighbor p d) s ≡ true
      → reaches w (neighbor p d) d ≡ true
  pointing d s along is = by s along is
    where
      by : (s : Side) → side_dir s ≡ opposite d → points w (neighbor p d) s ≡ true
          → reaches w (neighbor p d) d ≡ true
      by side.East along is = subst (λ e. points w (neighbor p e) side.East ≡ true → reaches w (neighbor p e) e ≡ true)
          (ap opposite along ∙ back_twice d) (λ is. is) is
      by side.West along is = subst (λ e. points w (neighbor p e) side.West ≡ true → reaches w (neighbor p e) e ≡ true)
          (ap opposite along ∙ back_twice d) (λ is. is) is
      by side.South along is = subst (λ e. points w (neighbor p e) side.South ≡ true → reaches w (neighbor p e) e ≡ true)
          (ap opposite along ∙ back_twice d) (λ is. is) is
      by side.North along is = subst (λ e. points w (neighbor p e) side.North ≡ true → reaches w (neighbor p e) e ≡ true)
          (ap opposite along ∙ back_twice d) (λ is. is) is

  reaches_from : (d : Dir) → LiesSo (neighbor p d) → reaches w (neighbor p d) d ≡ true
  reaches_from d (inl on) =
      ap (λ e. reaches w (neighbor p e) e) (sym (back_twice d) ∙ ap opposite (sym (leads_back p d Down on)))
  reaches_from d (inr at) = pointing d at.0 (leads_back p d (side_dir at.0) at.1) at.2

  module _ (level : Pos → ℕ) where
    dust_reaches_at : (d : Dir) → dust_powers w level p d ≡ true → DustReaches w level (neighbor p d) p
    unfolding dust_powers
    dust_reaches_at d is =
        let q = neighbor p d in
        let first = and_parts (is_dust (w q) && nat_lt 0 (level q)) (reaches w q d) is in
        let second = and_parts (is_dust (w q)) (nat_lt 0 (level q)) first.0 in
        (dust_at (w q) second.0, over_at (level q) second.1, reaches_at d first.1)

    dust_reaches_from : (d : Dir) → DustReaches w level (neighbor p d) p → dust_powers w level p d ≡ true
    unfolding dust_powers
    dust_reaches_from d is =
        let q = neighbor p d in
        and_from (is_dust (w q) && nat_lt 0 (level q)) (reaches w q d)
        (and_from (is_dust (w q)) (nat_lt 0 (level q)) (dust_from (w q) is.0) (over_from (level q) is.1))
        (reaches_from d is.2)

    powered_at : is_powered w level p ≡ true → IsPowered w level p
    unfolding is_powered is_dust_powered
    powered_at is =
        let parts = and_parts (conducts (w p)) (is_driven w p || is_dust_powered w level p) is in (
          parts.0,
          elim (or_cases (is_driven w p) (is_dust_powered w level p) parts.1) [
            | inl driven ↦ inl (driven_at w p driven)
            | inr dust ↦ let at = some_at (dust_powers w level p) dust in inr (at.0, dust_reaches_at at.0 at.1)
          ],
        )

    by_powered : IsDriven w p ⊎ ((d : Dir) × DustReaches w level (neighbor p d) p)
        → (is_driven w p || is_dust_powered w level p) ≡ true
    unfolding is_dust_powered
    by_powered (inl driven) = or_left (is_driven w p) (is_dust_powered w level p) (driven_from w p driven)
    by_powered (inr at) = or_right (is_driven w p) (is_dust_powered w level p)
        (some_from (dust_powers w level p) at.0 (dust_reaches_from at.0 at.1))

    powered_from : IsPowered w level p → is_powered w level p ≡ true
    unfolding is_powered
    powered_from is =
        and_from (conducts (w p)) (is_driven w p || is_dust_powered w level p) is.0 (by_powered is.1)

pub powered_are_these : PoweredAreThese
powered_are_these w level p = record { only = powered_at w p level; all = powered_from w p level }

module _ (w : Pos → Cell) (level : Pos → ℕ) (p : Pos) where
  pub activates_at : (d : Dir) → activates w level p d ≡ true → Activates w level p d
  unfolding activates
  activates_at d is =
      let q = neighbor p d in
      elim (or_cases (gives (w q) (opposite d) || is_powered w level q) (dust_powers w level p d) is) [
        | inl first ↦ elim (or_cases (gives (w q) (opposite d)) (is_powered w level q) first) [
          | inl given ↦ inl (given_at w p d given)
          | inr powered ↦ inr (inl (powered_at w q level powered))
        ]
        | inr dust ↦ inr (inr (dust_reaches_at w p level d dust))
      ]

  pub activates_from : (d : Dir) → Activates w level p d → activates w level p d ≡ true
  unfolding activates
  activates_from d (inl to) =
      or_left (gives (w (neighbor p d)) (opposite d) || is_powered w level (neighbor p d)) (dust_powers w level p d)
      (or_left (gives (w (neighbor p d)) (opposite d)) (is_powered w level (neighbor p d)) (given_from w p d to))
  activates_from d (inr (inl powered)) =
      or_left (gives (w (neighbor p d)) (opposite d) || is_powered w level (neighbor p d)) (dust_powers w level p d)
      (or_right (gives (w (neighbor p d)) (opposite d)) (is_powered w level (neighbor p d)) (powered_from w (neighbor p d) level powered))
  activates_from d (inr (inr dust)) =
      or_right (gives (w (neighbor p d)) (opposite d) || is_powered w level (neighbor p d)) (dust_powers w level p d)
      (dust_reaches_from w p level d dust)

  lamp_at : is_active w level None p ≡ true → (d : Dir) × Activates w level p d
  unfolding is_active
  lamp_at is =
      let at = some_at (λ d. not (is_front None d) && activates w level p d) is in
      (at.0, activates_at at.0 at.1)

  lamp_from : (d : Dir) × Activates w level p d → is_active w level None p ≡ true
  unfolding is_active
  lamp_from at = some_from (λ d. not (is_front None d) && activates w level p d) at.0 (activates_from at.0 at.1)

  module _ (front : Dir) where
    piston_at : is_active w level (Some front) p ≡ true
        → (d : Dir) × (d ≡ front → ⊥) × Activates w level p d
    unfolding is_active
    piston_at is =
        let at = some_at (λ d. not (is_front (Some front) d) && activates w level p d) is in
        let parts = and_parts (not (same_dir front at.0)) (activates w level p at.0) at.1 in
        (at.0, (λ same. other_at front at.0 parts.0 (sym same)), activates_at at.0 parts.1)

    piston_from : (d : Dir) × (d ≡ front → ⊥) × Activates w level p d
        → is_active w level (Some front) p ≡ true
    unfolding is_active
    piston_from at =
        some_from (λ d. not (is_front (Some front) d) && activates w level p d) at.0
        (and_from (not (same_dir front at.0)) (activates w level p at.0)
        (other_from front at.0 (λ same. at.1 (sym same))) (activates_from at.0 at.2))

pub activators_are_these : ActivatorsAreThese
activators_are_these w level p d =
    record { only = activates_at w level p d; all = activates_from w level p d }

pub active_lamps_are_these : ActiveLampsAreThese
active_lamps_are_these w level p = record { only = lamp_at w level p; all = lamp_from w level p }

pub active_pistons_are_these : ActivePistonsAreThese
active_pistons_are_these w level p front =
    record { only = piston_at w level p front; all = piston_from w level p front }
