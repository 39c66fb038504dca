-- Links of dust lead both ways.
use Rattle.std.proofs.Common.{◌≡◌, Bool, true, false, not, ◌&&◌, ◌⊎◌, inl, inr, List, [], ◌∷◌, ◌++◌, if◌then◌else◌, refl, sym, ap, ◌∙◌, subst}
use Rattle.std.proofs.lemmas.Bool.{and_parts, false≢true}
use Rattle.vx_geom.specs.declared.pos.Pos.{Pos}
use Rattle.vx_geom.specs.declared.dir.Dir.TheVariants.{Up, Down}
use Rattle.vx_geom.proofs.Positions.{there_and_back}
use Rattle.vx_block.specs.declared.cell.Cell.{Cell}
use Rattle.vx_block.specs.declared.side.Side.{Side}
use Rattle.vx_block.specs.declared.side.Side.TheVariants.{East, West, South, North}
use Rattle.vx_block.specs.Components.{is_dust}
use Rattle.vx_block.specs.Conductors.{conducts}
use Rattle.vx_block.specs.Sides.{side_back}
use Rattle.vx_block.specs.States.{side_dir}
use Rattle.vx_power.specs.Dust.{beside, over, under, links_beside, links_up, links_down, links_on, links}
use Rattle.vx_power.specs.Walks.{IsAmong}

-- an element of one of two lists
pub among_either : {X : Type 0} (xs ys : List X) (x : X) → IsAmong (xs ++ ys) x → IsAmong xs x ⊎ IsAmong ys x
among_either [] ys x among = inr among
among_either (y ∷ xs) ys x (inl same) = inl (inl same)
among_either (y ∷ xs) ys x (inr among) = elim (among_either xs ys x among) [ inl here ↦ inl (inr here) | inr there ↦ inr there ]

pub among_left : {X : Type 0} (xs ys : List X) (x : X) → IsAmong xs x → IsAmong (xs ++ ys) x
among_left [] ys x among = absurd among
among_left (y ∷ xs) ys x (inl same) = inl same
among_left (y ∷ xs) ys x (inr among) = inr (among_left xs ys x among)

pub among_right : {X : Type 0} (xs ys : List X) (x : X) → IsAmong ys x → IsAmong (xs ++ ys) x
among_right [] ys x among = among
among_right (y ∷ xs) ys x among = inr (among_right xs ys x among)

-- one element, if there is one
among_if : {X : Type 0} (b : Bool) (y x : X) → IsAmong (if b then y ∷ [] else []) x → (b ≡ true) × (y ≡ x)
among_if true y x (inl same) = (refl, same)
among_if true y x (inr among) = absurd among
among_if false y x among = absurd among

if_among : {X : Type 0} (b : Bool) (y : X) → b ≡ true → IsAmong (if b then y ∷ [] else []) y
if_among true y is = inl refl
if_among false y is = absurd (false≢true is)

module _ (w : Pos → Cell) where
  -- how dust at p links to q on one side
  unfoldable pub Linked : Pos → Side → Pos → Type 0
  Linked p side q =
      ((links_beside w p side ≡ true) × (beside p side ≡ q))
      ⊎ (((links_up w p side ≡ true) × (over (beside p side) ≡ q))
      ⊎ ((links_down w p side ≡ true) × (under (beside p side) ≡ q)))

  linked_on : (p : Pos) (side : Side) (q : Pos) → IsAmong (links_on w p side) q → Linked p side q
  unfolding links_on Linked
  linked_on p side q among =
      let first = if links_beside w p side then beside p side ∷ [] else [] in
      let second = if links_up w p side then over (beside p side) ∷ [] else [] in
      let third = if links_down w p side then under (beside p side) ∷ [] else [] in
      elim (among_either first (second ++ third) q among) [
        | inl here ↦ inl (among_if (links_beside w p side) (beside p side) q here)
        | inr rest ↦ elim (among_either second third q rest) [
          | inl here ↦ inr (inl (among_if (links_up w p side) (over (beside p side)) q here))
          | inr here ↦ inr (inr (among_if (links_down w p side) (under (beside p side)) q here))
        ]
      ]

  on_linked : (p : Pos) (side : Side) (q : Pos) → Linked p side q → IsAmong (links_on w p side) q
  unfolding links_on Linked
  on_linked p side q linked =
      let first = if links_beside w p side then beside p side ∷ [] else [] in
      let second = if links_up w p side then over (beside p side) ∷ [] else [] in
      let third = if links_down w p side then under (beside p side) ∷ [] else [] in
      elim linked [
        | inl at ↦ among_left first (second ++ third) q (subst (IsAmong first) at.1 (if_among (links_beside w p side) (beside p side) at.0))
        | inr further ↦ among_right first (second ++ third) q (elim further [
          | inl at ↦ among_left second third q (subst (IsAmong second) at.1 (if_among (links_up w p side) (over (beside p side)) at.0))
          | inr at ↦ among_right second third q (subst (IsAmong third) at.1 (if_among (links_down w p side) (under (beside p side)) at.0))
        ])
      ]

  -- dust that links to something, and on which side
  pub links_at : (p q : Pos) → IsAmong (links w p) q → (is_dust (w p) ≡ true) × ((side : Side) × Linked p side q)
  unfolding links
  links_at p q among = by (is_dust (w p)) refl among
    where
      by : (b : Bool) → is_dust (w p) ≡ b
          → IsAmong (if b then links_on w p East ++ (links_on w p West ++ (links_on w p South ++ links_on w p North)) else []) q
          → (is_dust (w p) ≡ true) × ((side : Side) × Linked p side q)
      by false is none = absurd none
      by true is among = (
        is,
        elim (among_either (links_on w p East) (links_on w p West ++ (links_on w p South ++ links_on w p North)) q among) [
          | inl here ↦ (East, linked_on p East q here)
          | inr rest ↦ elim (among_either (links_on w p West) (links_on w p South ++ links_on w p North) q rest) [
            | inl here ↦ (West, linked_on p West q here)
            | inr rest ↦ elim (among_either (links_on w p South) (links_on w p North) q rest) [
              | inl here ↦ (South, linked_on p South q here)
              | inr here ↦ (North, linked_on p North q here)
            ]
          ]
        ],
      )

  on_side : (p : Pos) (side : Side) (q : Pos) → IsAmong (links_on w p side) q
      → IsAmong (links_on w p East ++ (links_on w p West ++ (links_on w p South ++ links_on w p North))) q
  on_side p East q among = among_left (links_on w p East) (links_on w p West ++ (links_on w p South ++ links_on w p North)) q among
  on_side p West q among = among_right (links_on w p East) (links_on w p West ++ (links_on w p South ++ links_on w p North)) q
      (among_left (links_on w p West) (links_on w p South ++ links_on w p North) q among)
  on_side p South q among = among_right (links_on w p East) (links_on w p West ++ (links_on w p South ++ links_on w p North)) q
      (among_right (links_on w p West) (links_on w p South ++ links_on w p North) q (among_left (links_on w p South) (links_on w p North) q among))
  on_side p North q among = among_right (links_on w p East) (links_on w p West ++ (links_on w p South ++ links_on w p North)) q
      (among_right (links_on w p West) (links_on w p South ++ links_on w p North) q (among_right (links_on w p South) (links_on w p North) q among))

  pub at_links : (p : Pos) (side : Side) (q : Pos) → is_dust (w p) ≡ true → Linked p side q → IsAmong (links w p) q
  unfolding links
  at_links p side q dust linked =
      subst (λ b. IsAmong (if b then links_on w p East ++ (links_on w p West ++ (links_on w p South ++ links_on w p North)) else []) q)
      (sym dust) (on_side p side q (on_linked p side q linked))

  -- back again
  back_beside : (p : Pos) (side : Side) → beside (beside p side) (side_back side) ≡ p
  back_beside p East = there_and_back p (side_dir East)
  back_beside p West = there_and_back p (side_dir West)
  back_beside p South = there_and_back p (side_dir South)
  back_beside p North = there_and_back p (side_dir North)

  up_and_back : (p : Pos) (side : Side) → beside (over (beside p side)) (side_back side) ≡ over p
  up_and_back p East = ap over (back_beside p East)
  up_and_back p West = ap over (back_beside p West)
  up_and_back p South = ap over (back_beside p South)
  up_and_back p North = ap over (back_beside p North)

  down_and_back : (p : Pos) (side : Side) → beside (under (beside p side)) (side_back side) ≡ under p
  down_and_back p East = ap under (back_beside p East)
  down_and_back p West = ap under (back_beside p West)
  down_and_back p South = ap under (back_beside p South)
  down_and_back p North = ap under (back_beside p North)

  both : (a b : Bool) → a ≡ true → b ≡ false → (a && not b) ≡ true
  both true false x y = refl
  both true true x y = absurd (false≢true (sym y))
  both false b x y = absurd (false≢true x)

  not_true : (b : Bool) → not b ≡ true → b ≡ false
  not_true false h = refl
  not_true true h = absurd (false≢true h)

  -- the link from the other end
  turned : (p : Pos) (side : Side) (q : Pos) → is_dust (w p) ≡ true → Linked p side q
      → (is_dust (w q) ≡ true) × Linked q (side_back side) p
  unfolding links_beside links_up links_down Linked
  turned p side q dust linked = elim linked [
    | inl at ↦ (
      subst (λ q. is_dust (w q) ≡ true) at.1 at.0,
      subst (λ q. Linked q (side_back side) p) at.1
          (inl (ap (λ r. is_dust (w r)) (back_beside p side) ∙ dust, back_beside p side)),
    )
    | inr further ↦ elim further [
      | inl at ↦
          let parts = and_parts (is_dust (w (over (beside p side)))) (not (conducts (w (over p)))) at.0 in
          let home : under (beside (over (beside p side)) (side_back side)) ≡ p = ap under (up_and_back p side) ∙ there_and_back p Up in (
            subst (λ q. is_dust (w q) ≡ true) at.1 parts.0,
            subst (λ q. Linked q (side_back side) p) at.1 (inr (inr (
              both (is_dust (w (under (beside (over (beside p side)) (side_back side))))) (conducts (w (beside (over (beside p side)) (side_back side))))
                  (ap (λ r. is_dust (w r)) home ∙ dust)
                  (ap (λ r. conducts (w r)) (up_and_back p side) ∙ not_true (conducts (w (over p))) parts.1),
              home,
            ))),
          )
      | inr at ↦
          let parts = and_parts (is_dust (w (under (beside p side)))) (not (conducts (w (beside p side)))) at.0 in
          let home : over (beside (under (beside p side)) (side_back side)) ≡ p = ap over (down_and_back p side) ∙ there_and_back p Down in (
            subst (λ q. is_dust (w q) ≡ true) at.1 parts.0,
            subst (λ q. Linked q (side_back side) p) at.1 (inr (inl (
              both (is_dust (w (over (beside (under (beside p side)) (side_back side))))) (conducts (w (over (under (beside p side)))))
                  (ap (λ r. is_dust (w r)) home ∙ dust)
                  (ap (λ r. conducts (w r)) (there_and_back (beside p side) Down) ∙ not_true (conducts (w (beside p side))) parts.1),
              home,
            ))),
          )
    ]
  ]

  -- links lead both ways
  pub links_lead_back : (p q : Pos) → IsAmong (links w p) q → IsAmong (links w q) p
  links_lead_back p q among =
      let at = links_at p q among in
      let back = turned p at.1.0 q at.0 at.1.1 in
      at_links q (side_back at.1.0) p back.0 back.1
