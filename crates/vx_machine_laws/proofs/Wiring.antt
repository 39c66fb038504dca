-- What dust links to and what it joins.
use Rattle.std.proofs.Common.{◌≡◌, Bool, true, false, not, ◌&&◌, ◌||◌, ◌⊎◌, inl, inr, List, [], ◌∷◌, ◌++◌, if◌then◌else◌, refl, sym, ap, ◌∙◌, subst}
use Rattle.std.proofs.lemmas.Bool.{and_parts, and_from, or_cases, or_left, or_right, not-true, false≢true}
use Rattle.vx_geom.specs.declared.pos.Pos.{Pos}
use Rattle.vx_geom.specs.declared.dir.Dir.TheVariants.{Up, Down}
use Rattle.vx_geom.specs.Neighbor.{neighbor}
use Rattle.vx_block.specs.declared.side.Side.{Side}
use Rattle.vx_block.specs.declared.side.Side.TheVariants.{East, West, South, North}
use Rattle.vx_block.specs.declared.cell.Cell.{Cell}
use Rattle.vx_block.specs.declared.cell.Cell.TheVariants.{Torch, Lever, Repeater}
use Rattle.vx_block.specs.Components.{is_dust}
use Rattle.vx_block.specs.Conductors.{conducts}
use Rattle.vx_block.specs.Sides.{side_back, same_side}
use Rattle.vx_power.specs.Dust.{beside, over, under, links_beside, links_up, links_down, links_on, links, is_joined, joins}
use Rattle.vx_power.specs.Walks.{IsAmong}
use Rattle.vx_power.proofs.Linking.{among_either, among_left, among_right}
use Rattle.vx_machine_laws.specs.Signals.{IsDust}
use Rattle.vx_machine_laws.specs.Dust.{next_to, IsLinked, DustLinksToThese, IsJoined, Joins, DustJoinsThese, TorchesOutAreJoined}
use Rattle.vx_machine_laws.proofs.Powering.{dust_at, dust_from}

pub same_side_at : (a b : Side) → same_side a b ≡ true → a ≡ b
same_side_at East East is = refl
same_side_at West West is = refl
same_side_at South South is = refl
same_side_at North North is = refl
same_side_at a b is = absurd (false≢true is)

same_side_self : (s : Side) → same_side s s ≡ true
same_side_self East = refl
same_side_self West = refl
same_side_self South = refl
same_side_self North = refl

pub same_side_from : (a b : Side) → a ≡ b → same_side a b ≡ true
same_side_from a b is = ap (λ s. same_side s b) is ∙ same_side_self b

-- one element, if there is one
among_if : {X : Type 0} (b : Bool) (y x : X) → IsAmong (if b then y ∷ [] else []) x → (b ≡ true) × (y ≡ x)
among_if true y x (inl same) = (refl, same)
among_if true y x (inr among) = absurd among
among_if false y x among = absurd among

if_among : {X : Type 0} (b : Bool) (y x : X) → b ≡ true → y ≡ x → IsAmong (if b then y ∷ [] else []) x
if_among true y x is same = inl same
if_among false y x is same = absurd (false≢true is)

both : (a b : Bool) → a ≡ true → b ≡ false → (a && not b) ≡ true
both a b x y = and_from a (not b) x (ap not y)

module _ (w : Pos → Cell) (p : Pos) where
  -- the tests on one side
  module _ (side : Side) where
    dust_beside : links_beside w p side ≡ true → IsLinked w p side (next_to p side)
    unfolding links_beside
    dust_beside is = (dust_at (w (next_to p side)) is, inl refl)

    dust_over : links_up w p side ≡ true → IsLinked w p side (over (next_to p side))
    unfolding links_up
    dust_over is =
        let parts = and_parts (is_dust (w (over (next_to p side)))) (not (conducts (w (over p)))) is in
        (dust_at (w (over (next_to p side))) parts.0, inr (inl (refl, not-true (conducts (w (over p))) parts.1)))

    dust_under : links_down w p side ≡ true → IsLinked w p side (under (next_to p side))
    unfolding links_down
    dust_under is =
        let parts = and_parts (is_dust (w (under (next_to p side)))) (not (conducts (w (next_to p side)))) is in
        (dust_at (w (under (next_to p side))) parts.0, inr (inr (refl, not-true (conducts (w (next_to p side))) parts.1)))

    beside_from : (q : Pos) → IsDust (w q) → next_to p side ≡ q → links_beside w p side ≡ true
    unfolding links_beside
    beside_from q dust at = ap (λ r. is_dust (w r)) at ∙ dust_from (w q) dust

    over_from : (q : Pos) → IsDust (w q) → over (next_to p side) ≡ q → conducts (w (over p)) ≡ false → links_up w p side ≡ true
    unfolding links_up
    over_from q dust at clear =
        both (is_dust (w (over (next_to p side)))) (conducts (w (over p))) (ap (λ r. is_dust (w r)) at ∙ dust_from (w q) dust) clear

    under_from : (q : Pos) → IsDust (w q) → under (next_to p side) ≡ q → conducts (w (next_to p side)) ≡ false → links_down w p side ≡ true
    unfolding links_down
    under_from q dust at clear =
        both (is_dust (w (under (next_to p side)))) (conducts (w (next_to p side))) (ap (λ r. is_dust (w r)) at ∙ dust_from (w q) dust) clear

    -- what p links to on that side
    first : List Pos
    first = if links_beside w p side then beside p side ∷ [] else []

    second : List Pos
    second = if links_up w p side then over (beside p side) ∷ [] else []

    third : List Pos
    third = if links_down w p side then under (beside p side) ∷ [] else []

    linked_at : (q : Pos) → IsAmong (links_on w p side) q → IsLinked w p side q
    unfolding links_on first second third
    linked_at q among = elim (among_either first (second ++ third) q among) [
      | inl here ↦ let at = among_if (links_beside w p side) (beside p side) q here in
          subst (IsLinked w p side) at.1 (dust_beside at.0)
      | inr rest ↦ elim (among_either second third q rest) [
        | inl here ↦ let at = among_if (links_up w p side) (over (beside p side)) q here in
            subst (IsLinked w p side) at.1 (dust_over at.0)
        | inr here ↦ let at = among_if (links_down w p side) (under (beside p side)) q here in
            subst (IsLinked w p side) at.1 (dust_under at.0)
      ]
    ]

    linked_by : (q : Pos) → IsDust (w q)
        → (next_to p side ≡ q)
        ⊎ (((neighbor (next_to p side) Up ≡ q) × (conducts (w (neighbor p Up)) ≡ false))
        ⊎ ((neighbor (next_to p side) Down ≡ q) × (conducts (w (next_to p side)) ≡ false)))
        → IsAmong (links_on w p side) q
    unfolding links_on first second third
    linked_by q dust (inl at) =
        among_left first (second ++ third) q
        (if_among (links_beside w p side) (beside p side) q (beside_from q dust at) at)
    linked_by q dust (inr (inl at)) =
        among_right first (second ++ third) q (among_left second third q
        (if_among (links_up w p side) (over (beside p side)) q (over_from q dust at.0 at.1) at.0))
    linked_by q dust (inr (inr at)) =
        among_right first (second ++ third) q (among_right second third q
        (if_among (links_down w p side) (under (beside p side)) q (under_from q dust at.0 at.1) at.0))

    linked_from : (q : Pos) → IsLinked w p side q → IsAmong (links_on w p side) q
    linked_from q linked = linked_by q linked.0 linked.1

    -- what it joins there besides dust
    joined_at : (c : Cell) → is_joined side c ≡ true → IsJoined c side
    joined_at (Torch mounted lit) is = inl (mounted, lit, refl)
    joined_at (Lever mounted on) is = inr (inl (mounted, on, refl))
    joined_at (Repeater r) is =
        inr (inr (
          r,
          refl,
          elim (or_cases (same_side r.facing side) (same_side r.facing (side_back side)) is) [
            | inl there ↦ inl (same_side_at r.facing side there)
            | inr back ↦ inr (same_side_at r.facing (side_back side) back)
          ],
        ))
    joined_at _ is = absurd (false≢true is)

    along : (r : Side) → (r ≡ side) ⊎ (r ≡ side_back side) → (same_side r side || same_side r (side_back side)) ≡ true
    along r (inl there) = or_left (same_side r side) (same_side r (side_back side)) (same_side_from r side there)
    along r (inr back) = or_right (same_side r side) (same_side r (side_back side)) (same_side_from r (side_back side) back)

    joined_from : (c : Cell) → IsJoined c side → is_joined side c ≡ true
    joined_from c (inl torch) = ap (is_joined side) torch.2
    joined_from c (inr (inl lever)) = ap (is_joined side) lever.2
    joined_from c (inr (inr r)) = ap (is_joined side) r.1 ∙ along r.0.facing r.2

    joins_at : joins w p side ≡ true → Joins w p side
    unfolding joins
    joins_at is =
        elim (or_cases (links_beside w p side || links_up w p side || links_down w p side) (is_joined side (w (beside p side))) is) [
          | inl linked ↦ elim (or_cases (links_beside w p side || links_up w p side) (links_down w p side) linked) [
            | inl near ↦ elim (or_cases (links_beside w p side) (links_up w p side) near) [
              | inl here ↦ inl (next_to p side, dust_beside here)
              | inr up ↦ inl (over (next_to p side), dust_over up)
            ]
            | inr down ↦ inl (under (next_to p side), dust_under down)
          ]
          | inr joined ↦ inr (joined_at (w (beside p side)) joined)
        ]

    links_some : (q : Pos) → IsDust (w q)
        → (next_to p side ≡ q)
        ⊎ (((neighbor (next_to p side) Up ≡ q) × (conducts (w (neighbor p Up)) ≡ false))
        ⊎ ((neighbor (next_to p side) Down ≡ q) × (conducts (w (next_to p side)) ≡ false)))
        → (links_beside w p side || links_up w p side || links_down w p side) ≡ true
    links_some q dust (inl at) =
        or_left (links_beside w p side || links_up w p side) (links_down w p side)
        (or_left (links_beside w p side) (links_up w p side) (beside_from q dust at))
    links_some q dust (inr (inl at)) =
        or_left (links_beside w p side || links_up w p side) (links_down w p side)
        (or_right (links_beside w p side) (links_up w p side) (over_from q dust at.0 at.1))
    links_some q dust (inr (inr at)) =
        or_right (links_beside w p side || links_up w p side) (links_down w p side) (under_from q dust at.0 at.1)

    joins_from : Joins w p side → joins w p side ≡ true
    unfolding joins
    joins_from (inl linked) =
        or_left (links_beside w p side || links_up w p side || links_down w p side) (is_joined side (w (beside p side)))
        (links_some linked.0 linked.1.0 linked.1.1)
    joins_from (inr joined) =
        or_right (links_beside w p side || links_up w p side || links_down w p side) (is_joined side (w (beside p side)))
        (joined_from (w (beside p side)) joined)

  -- all four sides
  all_on : List Pos
  all_on = links_on w p East ++ (links_on w p West ++ (links_on w p South ++ links_on w p North))

  on_some : (q : Pos) → IsAmong all_on q → (side : Side) × IsLinked w p side q
  unfolding all_on
  on_some q among = elim (among_either (links_on w p East) (links_on w p West ++ (links_on w p South ++ links_on w p North)) q among) [
    | inl here ↦ (East, linked_at East q here)
    | inr rest ↦ elim (among_either (links_on w p West) (links_on w p South ++ links_on w p North) q rest) [
      | inl here ↦ (West, linked_at West q here)
      | inr rest ↦ elim (among_either (links_on w p South) (links_on w p North) q rest) [
        | inl here ↦ (South, linked_at South q here)
        | inr here ↦ (North, linked_at North q here)
      ]
    ]
  ]

  on_side : (side : Side) (q : Pos) → IsAmong (links_on w p side) q → IsAmong all_on q
  unfolding all_on
  on_side East q among = among_left (links_on w p East) (links_on w p West ++ (links_on w p South ++ links_on w p North)) q among
  on_side West q among = among_right (links_on w p East) (links_on w p West ++ (links_on w p South ++ links_on w p North)) q
      (among_left (links_on w p West) (links_on w p South ++ links_on w p North) q among)
  on_side South q among = among_right (links_on w p East) (links_on w p West ++ (links_on w p South ++ links_on w p North)) q
      (among_right (links_on w p West) (links_on w p South ++ links_on w p North) q (among_left (links_on w p South) (links_on w p North) q among))
  on_side North q among = among_right (links_on w p East) (links_on w p West ++ (links_on w p South ++ links_on w p North)) q
      (among_right (links_on w p West) (links_on w p South ++ links_on w p North) q (among_right (links_on w p South) (links_on w p North) q among))

  links_at : (q : Pos) → IsAmong (links w p) q → IsDust (w p) × ((side : Side) × IsLinked w p side q)
  unfolding links all_on
  links_at q among = by (is_dust (w p)) refl among
    where
      by : (b : Bool) → is_dust (w p) ≡ b → IsAmong (if b then all_on else []) q
          → IsDust (w p) × ((side : Side) × IsLinked w p side q)
      by false is none = absurd none
      by true is among = (dust_at (w p) is, on_some q among)

  links_from : (q : Pos) → IsDust (w p) → (side : Side) → IsLinked w p side q → IsAmong (links w p) q
  unfolding links all_on
  links_from q dust side linked =
      subst (λ b. IsAmong (if b then all_on else []) q) (sym (dust_from (w p) dust)) (on_side side q (linked_from side q linked))

pub dust_links_to_these : DustLinksToThese
dust_links_to_these w p q = record { only = links_at w p q; all = links_from w p q }

pub dust_joins_these : DustJoinsThese
dust_joins_these w p side = record { only = joins_at w p side; all = joins_from w p side }

pub torches_out_are_joined : TorchesOutAreJoined
torches_out_are_joined w p side mounted is = joins_from w p side (inr (inl (mounted, false, is)))
