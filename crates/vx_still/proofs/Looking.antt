-- What lies so many steps off, and all components of a map.
use Rattle.std.proofs.Common.{◌≡◌, ℕ, zero, suc, ◌+◌, ◌<◌, ◌≤◌, true, nat_eq, inl, inr, List, [], ◌∷◌, ◌++◌, Some, refl, sym, ap, ◌∙◌, subst, arith}
use Rattle.std.specs.List.{list_any}
use Rattle.std.specs.Prelude.{ℤ, ◌-ℤ◌, unsigned_abs}
use Rattle.std.proofs.lemmas.Bool.{and_from, cases_Bool, cases_eq, false≢true, le-leb, or_left, or_right}
use Rattle.std.proofs.lemmas.Bool.Decides.{same_from_decides}
use Rattle.std.proofs.lemmas.Int.{ints}
use Rattle.vx_geom.specs.declared.dir.Dir.{Dir}
use Rattle.vx_geom.specs.declared.pos.Pos.{Pos}
use Rattle.vx_geom.specs.Dirs.{all_dirs}
use Rattle.vx_geom.specs.Neighbor.{neighbor}
use Rattle.vx_geom.specs.Places.{positions}
use Rattle.vx_geom.specs.Sizes.{AreSizes, is_inside, sector_count, sector_number, sector_of}
use Rattle.vx_block.specs.Components.{is_component, is_device, is_dust}
use Rattle.vx_cells.specs.Listed.{components_on}
use Rattle.vx_cells.specs.Maps.{MapData, cell_on}
use Rattle.vx_cells.proofs.Indices.{numbered, number_below}
use Rattle.vx_cells.proofs.MapLemmas.{outside_is_air}
use Rattle.vx_places.specs.Around.{is_around}
use Rattle.vx_places.specs.Places.{steps_between}
use Rattle.vx_places.proofs.Steps.{no_steps, is_place, place_is, one_step_is_one_more}
use Rattle.vx_power.specs.Levels.{has}
use Rattle.vx_power.specs.Local.{around, within_steps}
use Rattle.vx_power.specs.Walks.{IsAmong}
use Rattle.vx_power.proofs.Having.{has_at, has_from, has_filter, has_joined}
use Rattle.vx_power.proofs.Feeding.{is_listed}
use Rattle.vx_power.proofs.Linking.{among_either}
use Rattle.vx_power.proofs.Reach.{any_at, any_from}

-- as many steps lead there as back
back : (a b : ℤ) → unsigned_abs (a -ℤ b) ≡ unsigned_abs (b -ℤ a)
back a b = omega (arith, ints)

turned : (p q : Pos) → steps_between p q ≡ steps_between q p
turned p q = λ i. back p.x q.x i + (back p.y q.y i + back p.z q.z i)

around_at : (f : Pos → List Pos) (p q : Pos) (ds : List Dir) → IsAmong (around f p ds) q
    → (d : Dir) × IsAmong (f (neighbor p d)) q
around_at f p q [] among = absurd among
around_at f p q (d ∷ ds) among = elim (among_either (f (neighbor p d)) (around f p ds) q among) [
  | inl here ↦ (d, here)
  | inr further ↦ around_at f p q ds further
]

-- what so many steps lead to is so many steps off
steps_off : (n : ℕ) (p q : Pos) → IsAmong (within_steps n p) q → steps_between p q ≤ n
steps_off zero p q (inl same) = let none = no_steps p q same in omega (arith, none)
steps_off zero p q (inr among) = absurd among
steps_off (suc n) p q among =
    elim (among_either (within_steps n p) (around (within_steps n) p all_dirs) q among) [
      | inl here ↦ let near = steps_off n p q here in omega (arith, near)
      | inr further ↦
          let found = around_at (within_steps n) p q all_dirs further in
          let near = one_step_is_one_more p q found.0 n (steps_off n (neighbor p found.0) q found.1) in
          omega (arith, near)
    ]

-- so it is around what it is seen from
pub seen_around : (n : ℕ) (p q : Pos) → IsAmong (within_steps n p) q → is_around q n p ≡ true
seen_around n p q among =
    let off = steps_off n p q among in
    let same = turned p q in
    le-leb (steps_between q p) n (omega (arith, off, same))

-- a change among those that p sees is one around which p lies
pub change_around : (n : ℕ) (changed : List Pos) (p : Pos)
    → list_any (has changed) (within_steps n p) ≡ true
    → list_any (λ c. is_around c n p) changed ≡ true
change_around n changed p is =
    let found = any_at (has changed) (within_steps n p) is in
    any_from (λ c. is_around c n p) changed found.0 (has_at changed found.0 found.2)
    (seen_around n p found.0 found.1)

-- a component stands in the world
pub component_inside : (m : MapData) (p : Pos) → is_component (cell_on m p) ≡ true → is_inside m.sizes p ≡ true
component_inside m p component = elim (cases_Bool (is_inside m.sizes p)) [
  | inl inside ↦ inside
  | inr outside ↦
      let air = outside_is_air m p (λ inside. false≢true (sym outside ∙ inside)) in
      absurd (false≢true (sym (ap is_component air) ∙ component))
]

-- and so does a device
pub device_inside : (m : MapData) (p : Pos) → is_device (cell_on m p) ≡ true → is_inside m.sizes p ≡ true
device_inside m p stands = component_inside m p (or_right (is_dust (cell_on m p)) (is_device (cell_on m p)) stands)

-- a list has a position that no steps lead to from one of its own
pub listed_place : (ps : List Pos) (p : Pos)
    → list_any (λ q. nat_eq (steps_between q p) 0) ps ≡ true → has ps p ≡ true
listed_place ps p is =
    let found = any_at (λ q. nat_eq (steps_between q p) 0) ps is in
    has_from ps p (subst (IsAmong ps) (place_is found.0 p found.2) found.1)

-- and such steps lead to each that it has
pub place_listed : (ps : List Pos) (p : Pos) → has ps p ≡ true
    → list_any (λ q. nat_eq (steps_between q p) 0) ps ≡ true
place_listed ps p is =
    any_from (λ q. nat_eq (steps_between q p) 0) ps p (has_at ps p is) (is_place p p refl)

-- both are one test
pub same_listed : (ps : List Pos) (p : Pos)
    → has ps p ≡ list_any (λ q. nat_eq (steps_between q p) 0) ps
same_listed ps p =
    same_from_decides (has ps p) (list_any (λ q. nat_eq (steps_between q p) 0) ps)
    (place_listed ps p, listed_place ps p) (λ h. h, λ h. h)

-- the components of one sector more
pub more_components : (m : MapData) (n : ℕ) (old here new : List Pos) → AreSizes m.sizes
    → n < sector_count m.sizes → here ≡ components_on m n → new ≡ old ++ here
    → ((p : Pos) (k : ℕ) → k < n → sector_of m.sizes p ≡ Some k
    → is_component (cell_on m p) ≡ true → has old p ≡ true)
    → (p : Pos) (k : ℕ) → k < n + 1 → sector_of m.sizes p ≡ Some k
    → is_component (cell_on m p) ≡ true → has new p ≡ true
unfolding components_on
more_components m n old here new sizes low is joined before p k less held component =
    ap (λ ps. has ps p) joined ∙ has_joined old here p
    ∙ elim (cases_eq k n) [
      | inl same ↦
          or_right (has old p) (has here p)
          (ap (λ ps. has ps p) is ∙ has_filter (λ p. is_component (cell_on m p)) (positions m.sizes n) p
          ∙ and_from (is_component (cell_on m p)) (has (positions m.sizes n) p) component
          (has_from (positions m.sizes n) p (is_listed m.sizes p n sizes (component_inside m p component)
          (held ∙ ap Some same) low)))
      | inr other ↦ or_left (has old p) (has here p) (before p k (omega (arith, less)) held component)
    ]

-- each component is one of a sector
pub all_components : (m : MapData) (n : ℕ) (found : List Pos) → AreSizes m.sizes
    → n ≡ sector_count m.sizes
    → ((p : Pos) (k : ℕ) → k < n → sector_of m.sizes p ≡ Some k
    → is_component (cell_on m p) ≡ true → has found p ≡ true)
    → (p : Pos) → is_component (cell_on m p) ≡ true → has found p ≡ true
all_components m n found sizes all have p component =
    let inside = component_inside m p component in
    let below = number_below m.sizes p sizes inside in
    have p (sector_number m.sizes p) (omega (arith, below, all)) (numbered m.sizes p inside) component
