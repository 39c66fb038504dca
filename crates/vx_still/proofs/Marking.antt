-- The devices that heed what stands at a position are marked, direction by direction.
use Rattle.std.proofs.Common.{◌≡◌, ◌⊎◌, Bool, true, false, ◌&&◌, ◌||◌, nat_eq, inl, inr, List, [], ◌∷◌, ◌++◌, refl, sym, ap, ◌∙◌, subst}
use Rattle.std.proofs.lemmas.Bool.{and_from, and_parts, false≢true, or_cases, or_parts, or_right}
use Rattle.vx_geom.specs.declared.dir.Dir.{Dir}
use Rattle.vx_geom.specs.declared.dir.Dir.TheVariants.{East, West, Up, Down, South, North}
use Rattle.vx_geom.specs.declared.pos.Pos.{Pos}
use Rattle.vx_geom.specs.Dirs.{opposite}
use Rattle.vx_geom.specs.Neighbor.{neighbor}
use Rattle.vx_geom.proofs.Positions.{there_and_back}
use Rattle.vx_geom.specs.Sizes.{is_inside}
use Rattle.vx_block.specs.declared.cell.Cell.{Cell}
use Rattle.vx_block.specs.declared.cell.Cell.TheVariants.{Air}
use Rattle.vx_block.specs.declared.cell.Cell.TheVariants as cell
use Rattle.vx_block.specs.Components.{is_device, is_dust}
use Rattle.vx_block.specs.Conductors.{conducts}
use Rattle.vx_cells.specs.Maps.{MapData, cell_on}
use Rattle.vx_places.specs.Places.{PlacesData, is_at, steps_between}
use Rattle.vx_places.proofs.Steps as steps
use Rattle.vx_power.specs.Levels.{has, same_place}
use Rattle.vx_power.specs.Turning.{EachHeeded}
use Rattle.vx_power.proofs.Having.{has_joined, place_is}
use Rattle.vx_power.proofs.Local.{each_weaker}
use Rattle.vx_still.specs.Unheeded.{AreUnheeded, IsUnheeded, NoneBeside}
use Rattle.vx_still.specs.Telling.{AreMarkedBeside, AreMarkedFrom, HasHeeders, IsMarked, KeepsMarks}
use Rattle.vx_still.proofs.Looking.{device_inside}

-- what holds in each of the six directions holds in every one
pub six_dirs : (P : Dir → Type 0) → P East → P West → P Up → P Down → P South → P North → (d : Dir) → P d
six_dirs P east west up down south north East = east
six_dirs P east west up down south north West = west
six_dirs P east west up down south north Up = up
six_dirs P east west up down south north Down = down
six_dirs P east west up down south north South = south
six_dirs P east west up down south north North = north

module _ (m : MapData) where
  -- with more marked, what is marked is so
  pub marked_still : (old new : PlacesData) (p : Pos) → KeepsMarks old new → IsMarked m old p → IsMarked m new p
  marked_still old new p kept marked stands = kept p (marked stands)

  pub beside_still : (old new : PlacesData) (p : Pos) (d : Dir) → KeepsMarks old new → AreMarkedBeside m old p d
      → AreMarkedBeside m new p d
  beside_still old new p d kept marked = (
    marked_still old new (neighbor p d) kept marked.0,
    λ e is. marked_still old new (neighbor (neighbor p d) e) kept (marked.1 e is),
  )

  pub heeders_still : (old new : PlacesData) (p : Pos) → KeepsMarks old new → HasHeeders m old p → HasHeeders m new p
  heeders_still old new p kept = each_weaker (cell_on m) p (λ q. marked_still old new q kept)

  -- in each direction all are marked
  pub heeders_from : (places : PlacesData) (p : Pos) → IsMarked m places p → ((d : Dir) → AreMarkedBeside m places p d)
      → HasHeeders m places p
  heeders_from places p own each = record {
    own = own;
    beside = λ d. (each d).0;
    through = λ d e is. (each d).1 e is;
  }

  -- where nothing conducts nothing lies behind it
  pub none_behind : (places : PlacesData) (p : Pos) (d : Dir) → conducts (cell_on m (neighbor p d)) ≡ false
      → IsMarked m places (neighbor p d) → AreMarkedBeside m places p d
  none_behind places p d bare marked = (marked, λ e is. absurd (false≢true (sym bare ∙ is)))

  -- a position that was added is marked, if a device stands there
  pub added_is_marked : (old new : PlacesData) (p : Pos) → old.sizes ≡ m.sizes
      → ((q : Pos) → is_at new q ≡ (is_at old q || (is_inside old.sizes q && nat_eq (steps_between p q) 0)))
      → IsMarked m new p
  added_is_marked old new p sizes added stands =
      added p
      ∙ or_right (is_at old p) (is_inside old.sizes p && nat_eq (steps_between p p) 0)
      (and_from (is_inside old.sizes p) (nat_eq (steps_between p p) 0)
      (ap (λ v. is_inside v p) sizes ∙ device_inside m p stands) (steps.is_place p p refl))

  -- one position more has its heeders marked
  pub from_more : (old new : PlacesData) (done : List Pos) (p : Pos) → KeepsMarks old new → AreMarkedFrom m old done
      → HasHeeders m new p → AreMarkedFrom m new (done ++ p ∷ [])
  from_more old new done p kept marked here q there =
      elim (or_cases (has done q) (same_place q p || false) (sym (has_joined done (p ∷ []) q) ∙ there)) [
        | inl before ↦ heeders_still old new q kept (marked q before)
        | inr last ↦ subst (HasHeeders m new) (sym (place_is q p (just (same_place q p) last))) here
      ]
    where
      just : (b : _) → (b || false) ≡ true → b ≡ true
      just true is = refl
      just false is = is

-- dust is no device
dust_no_device : (c : Cell) → is_dust c ≡ true → is_device c ≡ false
dust_no_device (cell.Dust level) is = refl
dust_no_device (cell.Torch facing lit) is = cc
dust_no_device (cell.Lever facing on) is = cc
dust_no_device (cell.Repeater r) is = cc
dust_no_device (cell.Lamp state) is = cc
dust_no_device (cell.Piston facing sticky extended) is = cc
dust_no_device _ is = refl

module _ (m : MapData) (p : Pos) where
  -- where no device heeds it, all that do are marked
  pub none_to_mark : (places : PlacesData) → IsUnheeded m p → HasHeeders m places p
  none_to_mark places = each_weaker (cell_on m) p (λ q none stands. absurd (false≢true (sym none ∙ stands)))

  -- one position of dust more that no device heeds
  pub noted : (old new : PlacesData) → is_dust (cell_on m p) ≡ true → ((d : Dir) → NoneBeside m p d)
      → ((q : Pos) → is_at new q ≡ (is_at old q || (is_inside old.sizes q && nat_eq (steps_between p q) 0)))
      → AreUnheeded m [] old → AreUnheeded m [] new
  noted old new dust none added unheeded = record {
    dust = λ q at unbuilt. elim (before q at) [
      | inl was ↦ unheeded.dust q was unbuilt
      | inr same ↦ subst (λ r. is_dust (cell_on m r) ≡ true) same dust
    ];
    each = λ q at untouched. elim (before q at) [
      | inl was ↦ unheeded.each q was untouched
      | inr same ↦ subst (IsUnheeded m) same here
    ];
  }
    where
      here : IsUnheeded m p
      here = record {
        own = dust_no_device (cell_on m p) dust;
        beside = λ d. (none d).0;
        through = λ d e is. (none d).1 e is;
      }

      before : (q : Pos) → is_at new q ≡ true → (is_at old q ≡ true) ⊎ (p ≡ q)
      before q at =
          elim (or_cases (is_at old q) (is_inside old.sizes q && nat_eq (steps_between p q) 0) (sym (added q) ∙ at)) [
            | inl was ↦ inl was
            | inr new ↦ inr (steps.place_is p q (and_parts (is_inside old.sizes q) (nat_eq (steps_between p q) 0) new).1)
          ]

-- where none of six is true, each is false
pub none_of_six : (a b c d e f : Bool) → (((a || b) || (c || d)) || (e || f)) ≡ false
    → (a ≡ false) × (b ≡ false) × (c ≡ false) × (d ≡ false) × (e ≡ false) × (f ≡ false)
none_of_six a b c d e f none =
    let parts = or_parts ((a || b) || (c || d)) (e || f) none in
    let first = or_parts (a || b) (c || d) parts.0 in
    let one = or_parts a b first.0 in
    let two = or_parts c d first.1 in
    let three = or_parts e f parts.1 in
    (one.0, one.1, two.0, two.1, three.0, three.1)

-- what holds of every position holds of each that is heeded
pub each_all : {P : Pos → Type 0} (w : Pos → Cell) (p : Pos) → ((q : Pos) → P q) → EachHeeded w p P
each_all w p all = record {
  own = all p;
  beside = λ d. all (neighbor p d);
  through = λ d e is. all (neighbor (neighbor p d) e);
}

-- what is told of each position and those that it heeds is told of each and those that heed it
pub each_back : {R : Pos → Pos → Type 0} (w : Pos → Cell) (q : Pos) → ((r : Pos) → EachHeeded w r (R r))
    → EachHeeded w q (λ r. R r q)
each_back {R} w q each = record {
  own = (each q).own;
  beside = λ d.
      let r = neighbor q d in
      subst (R r) (there_and_back q d) ((each r).beside (opposite d));
  through = λ d e is.
      let c = neighbor q d in
      let r = neighbor c e in
      let back = there_and_back c e in
      subst (R r) (ap (λ b. neighbor b (opposite d)) back ∙ there_and_back q d)
      ((each r).through (opposite e) (opposite d) (ap (λ b. conducts (w b)) back ∙ is));
}
