-- What is marked for a position is told, and for one position after another.
use Rattle.std.proofs.Common.{◌≡◌, ℕ, Bool, true, false, ◌&&◌, ◌||◌, nat_eq, nat_lt, inl, inr, List, [], ◌∷◌, ◌++◌, refl, sym, ap, ◌∙◌, subst}
use Rattle.std.proofs.lemmas.Bool.{and_from, cases_Bool, or_cases, or_right}
use Rattle.vx_geom.specs.declared.pos.Pos.{Pos}
use Rattle.vx_geom.specs.Sizes.{is_inside}
use Rattle.vx_block.specs.Components.{is_dust}
use Rattle.vx_cells.specs.Maps.{MapData, cell_on}
use Rattle.vx_levels.specs.Linked.{level_at}
use Rattle.vx_levels.specs.Repairs.{IsRight}
use Rattle.vx_places.specs.Places.{PlacesData, is_at, steps_between}
use Rattle.vx_places.proofs.Steps.{is_place}
use Rattle.vx_power.specs.Levels.{LevelTable, has, same_place}
use Rattle.vx_power.proofs.Having.{has_joined, place_is}
use Rattle.vx_power.proofs.Stepping.{dust_inside}
use Rattle.vx_still.specs.Stillness.{stored_on}
use Rattle.vx_still.specs.Telling.{AreTold, HasHeeders, IsMarked, IsTold, KeepsMarks}
use Rattle.vx_still.proofs.Heeding.{no_store}
use Rattle.vx_still.proofs.Unsettling.{still_told}

-- only dust has another level than what is stored
pub dust_there : (m : MapData) (table : LevelTable) (p : Pos) (level stored : ℕ) → IsRight (cell_on m) table
    → level ≡ level_at table p → stored ≡ stored_on m p → (level ≡ stored → ⊥) → is_dust (cell_on m p) ≡ true
dust_there m table p level stored right level_is stored_is unlike = elim (cases_Bool (is_dust (cell_on m p))) [
  | inl dust ↦ dust
  | inr bare ↦ absurd (unlike (level_is ∙ right.empty p bare ∙ sym (no_store (cell_on m p) bare) ∙ sym stored_is))
]

module _ (m : MapData) (table : LevelTable) (p : Pos) (level stored : ℕ) (right : IsRight (cell_on m) table)
    (level_is : level ≡ level_at table p) (stored_is : stored ≡ stored_on m p) (unlike : level ≡ stored → ⊥)
    (old marked : PlacesData) (sizes : old.sizes ≡ m.sizes)
    (mark : (q : Pos) → is_at marked q ≡ (is_at old q || (is_inside old.sizes q && nat_eq (steps_between p q) 0))) where
  here : is_at marked p ≡ true
  here =
      mark p
      ∙ or_right (is_at old p) (is_inside old.sizes p && nat_eq (steps_between p p) 0)
      (and_from (is_inside old.sizes p) (nat_eq (steps_between p p) 0)
      (ap (λ v. is_inside v p) sizes ∙ dust_inside m p (dust_there m table p level stored right level_is stored_is unlike))
      (is_place p p refl))

  -- marked alone, where it gained and lost no power
  pub told_alone : nat_lt 0 level ≡ nat_lt 0 stored → IsTold m (level_at table) marked p
  told_alone same = record {
    own = inr here;
    near = inl (sym (ap (nat_lt 0) level_is) ∙ same ∙ ap (nat_lt 0) stored_is);
  }

  -- a device there is marked, as any cell is
  pub own_marked : IsMarked m marked p
  own_marked stands = here

  -- or with the devices that heed it
  pub told_with_heeders : (new : PlacesData) → KeepsMarks marked new → HasHeeders m new p → IsTold m (level_at table) new p
  told_with_heeders new kept heeders = record {
    own = inr (kept p here);
    near = inr heeders;
  }

-- one position more is told
pub told_more : (m : MapData) (level : Pos → ℕ) (old new : PlacesData) (done : List Pos) (p : Pos) → KeepsMarks old new
    → AreTold m level old done → IsTold m level new p → AreTold m level new (done ++ p ∷ [])
told_more m level old new done p kept told here q there =
    elim (or_cases (has done q) (same_place q p || false) (sym (has_joined done (p ∷ []) q) ∙ there)) [
      | inl before ↦ still_told m level old new q kept (told q before)
      | inr last ↦ subst (IsTold m level new) (sym (place_is q p (just (same_place q p) last))) here
    ]
  where
    just : (b : Bool) → (b || false) ≡ true → b ≡ true
    just true is = refl
    just false is = is

-- and by levels that are those at first
pub told_more_by : (m : MapData) (table now : LevelTable) (old new : PlacesData) (done : List Pos) (p : Pos) → now ≡ table
    → KeepsMarks old new → AreTold m (level_at table) old done → IsTold m (level_at now) new p
    → AreTold m (level_at table) new (done ++ p ∷ [])
told_more_by m table now old new done p same kept told here =
    told_more m (level_at table) old new done p kept told (subst (λ t. IsTold m (level_at t) new p) same here)
