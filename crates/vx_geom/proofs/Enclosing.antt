-- No position of a shape lies outside its columns.
use Rattle.std.proofs.Common.{◌≡◌, ◌%◌, true, false, ◌||◌, ◌==◌, List, [], ◌∷◌, inl, inr, arith, ap, subst}
use Rattle.std.specs.Prelude.{ℤ, int_le, ◌≤ℤ◌, ◌<ℤ◌}
use Rattle.std.specs.List.{list_any}
use Rattle.std.specs.Int.{int_min, int_max}
use Rattle.std.proofs.lemmas.Int.{ints, clamps, by_lt_z}
use Rattle.std.proofs.lemmas.Bool.{and_parts, and_from, or_cases, false_from_ne_true, both_ways}
use Rattle.vx_geom.specs.declared.pos.Pos.{Pos}
use Rattle.vx_geom.specs.declared.extent.Extent.{Extent}
use Rattle.vx_geom.specs.Polygon.{Column, is_between, in_box, on_edge, spans, meets_ray, is_enclosed, in_polygon}
use Rattle.vx_geom.specs.Outline.{Cuboid, Polygon, is_in, in_cuboid, in_columns}
use Rattle.vx_geom.specs.Extent.{is_within, of_corners, one_column, widened, widened_by, of_points, extent_of, ShapesLieWithin}
use Rattle.vx_geom.proofs.Crossing.{spans_at, not_met, not_spanning, not_passing, is_level, met_by_level}
use Rattle.vx_geom.proofs.Ways.{Each, OfEach, Changes, is_one, closed, edges_are, of_closed, any_along, none_along, even_closed}

-- the columns hold the point
pub record Held (e : Extent) (c : Column) : Type 0 where
  pub west : e.west ≤ℤ c.0
  pub east : c.0 ≤ℤ e.east
  pub north : e.north ≤ℤ c.1
  pub south : c.1 ≤ℤ e.south

still_held : (e : Extent) (c d : Column) → Held e d → Held (widened e c) d
unfolding widened
still_held e c d held = record {
  west = omega (arith, ints, clamps, held.west);
  east = omega (arith, ints, clamps, held.east);
  north = omega (arith, ints, clamps, held.north);
  south = omega (arith, ints, clamps, held.south);
}

now_held : (e : Extent) (c : Column) → Held (widened e c) c
unfolding widened
now_held e c = record {
  west = omega (arith, ints, clamps);
  east = omega (arith, ints, clamps);
  north = omega (arith, ints, clamps);
  south = omega (arith, ints, clamps);
}

stays_held : (e : Extent) (cs : List Column) (d : Column) → Held e d → Held (widened_by e cs) d
stays_held e [] d held = held
stays_held e (c ∷ cs) d held = stays_held (widened e c) cs d (still_held e c d held)

pub all_held : (e : Extent) (cs : List Column) → Each (Held (widened_by e cs)) cs
all_held e [] = tt
all_held e (c ∷ cs) = (stays_held (widened e c) cs c (now_held e c), all_held (widened e c) cs)

pub within_from : (e : Extent) (p : Pos) → e.west ≤ℤ p.x → p.x ≤ℤ e.east → e.north ≤ℤ p.z → p.z ≤ℤ e.south
    → is_within e p ≡ true
unfolding is_within
within_from e p west east north south =
    and_from _ _
    (and_from (int_le e.west p.x) (int_le p.x e.east) (grind (arith, ints)) (grind (arith, ints)))
    (and_from (int_le e.north p.z) (int_le p.z e.south) (grind (arith, ints)) (grind (arith, ints)))

-- what lies between two numbers lies where both do
between_at : (a b c low high : ℤ) → is_between a b c ≡ true → low ≤ℤ a → low ≤ℤ b → a ≤ℤ high → b ≤ℤ high
    → (low ≤ℤ c) × (c ≤ℤ high)
unfolding is_between
between_at a b c low high same low_a low_b high_a high_b =
    let parts = and_parts (int_le (int_min a b) c) (int_le c (int_max a b)) same in
    (omega (arith, ints, clamps, parts.0), omega (arith, ints, clamps, parts.1))

-- a position on an edge is among the columns
touching : (e : Extent) (p : Pos) → OfEach (Held e) (λ d. on_edge p d ≡ true → is_within e p ≡ true)
unfolding on_edge in_box
touching e p a b held_a held_b touches =
    let box = and_parts _ _ (and_parts _ _ touches).0 in
    let x = between_at a.0 b.0 p.x e.west e.east box.0 held_a.west held_b.west held_a.east held_b.east in
    let z = between_at a.1 b.1 p.z e.north e.south box.1 held_a.north held_b.north held_a.south held_b.south in
    within_from e p x.0 x.1 z.0 z.1

-- north and south of the columns no edge spans the row
north_spans : (e : Extent) (p : Pos) (a b : Column) → p.z <ℤ e.north → Held e a → spans a b p ≡ false
north_spans e p a b past held =
    false_from_ne_true _ (λ span. omega (arith, ints, held.north, (spans_at a b p span).0))

south_spans : (e : Extent) (p : Pos) (a b : Column) → e.south <ℤ p.z → Held e b → spans a b p ≡ false
south_spans e p a b past held =
    false_from_ne_true _ (λ span. omega (arith, ints, held.south, (spans_at a b p span).1))

north_of : (e : Extent) (p : Pos) → p.z <ℤ e.north → OfEach (Held e) (λ d. meets_ray p d ≡ false)
north_of e p past a b held_a held_b =
    not_met a b p (not_spanning a b p (north_spans e p a b past held_a))
    (not_spanning b a p (north_spans e p b a past held_b))

south_of : (e : Extent) (p : Pos) → e.south <ℤ p.z → OfEach (Held e) (λ d. meets_ray p d ≡ false)
south_of e p past a b held_a held_b =
    not_met a b p (not_spanning a b p (south_spans e p a b past held_b))
    (not_spanning b a p (south_spans e p b a past held_a))

east_of : (e : Extent) (p : Pos) → e.east <ℤ p.x → OfEach (Held e) (λ d. meets_ray p d ≡ false)
east_of e p past a b held_a held_b =
    let past_a : a.0 <ℤ p.x = omega (arith, ints, held_a.east) in
    let past_b : b.0 <ℤ p.x = omega (arith, ints, held_b.east) in
    not_met a b p (not_passing a b p past_a past_b) (not_passing b a p past_b past_a)

west_of : (e : Extent) (p : Pos) → p.x <ℤ e.west
    → OfEach (Held e) (λ d. meets_ray p d ≡ is_one (is_level p d.0) (is_level p d.1))
west_of e p past a b held_a held_b =
    let past_a : p.x <ℤ a.0 = omega (arith, ints, held_a.west) in
    let past_b : p.x <ℤ b.0 = omega (arith, ints, held_b.west) in
    met_by_level a b p past_a past_b

none_enclosed : (e : Extent) (p : Pos) (a : Column) (bs : List Column) → Each (Held e) (a ∷ bs)
    → OfEach (Held e) (λ d. meets_ray p d ≡ false) → is_enclosed p (closed a bs) ≡ false
unfolding is_enclosed
none_enclosed e p a bs all none =
    ap (λ n. n % 2 == 1) (none_along (meets_ray p) (closed a bs) (of_closed (Held e) (λ d. meets_ray p d ≡ false) none a bs all))

-- west of the columns an even number of edges meet the ray
even_enclosed : (e : Extent) (p : Pos) (a : Column) (bs : List Column) → Each (Held e) (a ∷ bs)
    → p.x <ℤ e.west → is_enclosed p (closed a bs) ≡ false
unfolding is_enclosed
even_enclosed e p a bs all past =
    even_closed (meets_ray p) (is_level p) a bs
    (of_closed (Held e) (Changes (meets_ray p) (is_level p)) (west_of e p past) a bs all)

enclosed_within : (e : Extent) (p : Pos) (a : Column) (bs : List Column) → Each (Held e) (a ∷ bs)
    → is_enclosed p (closed a bs) ≡ true → is_within e p ≡ true
enclosed_within e p a bs all enclosed =
    by_lt_z p.x e.west (λ past. absurd (both_ways _ (even_enclosed e p a bs all past) enclosed))
    (λ west. by_lt_z e.east p.x (λ past. absurd (both_ways _ (none_enclosed e p a bs all (east_of e p past)) enclosed))
    (λ east. by_lt_z p.z e.north (λ past. absurd (both_ways _ (none_enclosed e p a bs all (north_of e p past)) enclosed))
    (λ north. by_lt_z e.south p.z (λ past. absurd (both_ways _ (none_enclosed e p a bs all (south_of e p past)) enclosed))
    (λ south. within_from e p west east north south))))

within_held : (e : Extent) (p : Pos) (a : Column) (bs : List Column) → Each (Held e) (a ∷ bs)
    → (list_any (on_edge p) (closed a bs) || is_enclosed p (closed a bs)) ≡ true → is_within e p ≡ true
within_held e p a bs all inside =
    elim (or_cases (list_any (on_edge p) (closed a bs)) (is_enclosed p (closed a bs)) inside) [
      | inl touches ↦
          any_along (on_edge p) (is_within e p ≡ true) (closed a bs)
          (of_closed (Held e) (λ d. on_edge p d ≡ true → is_within e p ≡ true) (touching e p) a bs all) touches
      | inr enclosed ↦ enclosed_within e p a bs all enclosed
    ]

polygon_within : (points : List Column) (p : Pos) → in_polygon points p ≡ true
    → is_within (of_points points) p ≡ true
unfolding in_polygon of_points is_enclosed
polygon_within [] p inside = cc
polygon_within (a ∷ bs) p inside =
    within_held (widened_by (one_column a) (a ∷ bs)) p a bs (all_held (one_column a) (a ∷ bs))
    (subst (λ es. (list_any (on_edge p) es || is_enclosed p es) ≡ true) (edges_are a bs) inside)

pub shapes_lie_within : ShapesLieWithin
unfolding extent_of is_in in_cuboid in_columns is_within of_corners
shapes_lie_within (Cuboid a b) p inside = (and_parts _ _ inside).0
shapes_lie_within (Polygon points low high) p inside = polygon_within points p (and_parts _ _ inside).1
