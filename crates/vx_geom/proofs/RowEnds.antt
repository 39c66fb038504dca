-- The columns that are told of a row lie among those of the shape.
use Rattle.std.proofs.Common.{◌≡◌, ℤ, ◌-ℤ◌, ◌≤ℤ◌, ◌<ℤ◌, true, List, [], ◌∷◌, Some, None, Option, inl, inr, MatchOption, arith, subst, sym}
use Rattle.std.specs.List.{AllByRecursion}
use Rattle.std.proofs.lemmas.Int.{ints, clamps, by_lt_z}
use Rattle.std.proofs.lemmas.Bool.{cases_Bool}
use Rattle.vx_geom.specs.declared.pos.Pos.{Pos}
use Rattle.vx_geom.specs.declared.extent.Extent.{Extent}
use Rattle.vx_geom.specs.Polygon.{Column, Edge, edges}
use Rattle.vx_geom.specs.Outline.{Cuboid, Polygon, is_amid}
use Rattle.vx_geom.specs.Extent.{one_column, widened_by, of_corners, of_points, extent_of}
use Rattle.vx_geom.specs.Row.{shift, crossing, along, stretch, reaches, joined, with_edge, with_edges, row_between, row_of, RowsLieWithin}
use Rattle.vx_geom.proofs.Enclosing.{Held, all_held}
use Rattle.vx_geom.proofs.Rows.{south_cut, north_cut, level_cut}
use Rattle.vx_geom.proofs.Slopes.{lies_within, reached}
use Rattle.vx_geom.proofs.Ways.{closed, edges_are, of_closed}

-- columns from west to east of these
abbrev IsWithin : Extent → Extent → Type 0
IsWithin e row = (e.west ≤ℤ row.west) × (row.east ≤ℤ e.east)

abbrev AreWithin : Extent → Option Extent → Type 0
AreWithin e row = MatchOption row (Unit {0}) (IsWithin e)

abbrev StaysWithin : Extent → ℤ → Edge → Type 0
StaysWithin e z d = reaches z d ≡ true → IsWithin e (stretch z d)

-- a way to the south is cut between its ends
cut_within : (e : Extent) (z : ℤ) (a b : Column) → Held e a → Held e b → a.1 <ℤ b.1 → a.1 ≤ℤ z → z ≤ℤ b.1 → IsWithin e (crossing a b z)
unfolding crossing shift
cut_within e z a b held_a held_b below from to =
    let lies = lies_within (b.0 -ℤ a.0) (z -ℤ a.1) (b.1 -ℤ a.1) (omega (arith, ints, from)) (omega (arith, ints, to)) (omega (arith, ints, below)) in
    let low = lies.low (e.west -ℤ a.0) (omega (arith, ints, held_a.west)) (omega (arith, ints, held_b.west)) in
    let high = lies.high (e.east -ℤ a.0) (omega (arith, ints, held_a.east)) (omega (arith, ints, held_b.east)) in
    (omega (arith, ints, low), omega (arith, ints, high))

edge_within : (e : Extent) (z : ℤ) (a b : Column) → Held e a → Held e b → StaysWithin e z (a, b)
unfolding along
edge_within e z a b held_a held_b there =
    let ends = reached a b z there in
    by_lt_z a.1 b.1
    (λ below. rw (south_cut a b z below)
    (cut_within e z a b held_a held_b below (omega (arith, ints, clamps, ends.0, below)) (omega (arith, ints, clamps, ends.1, below))))
    (λ past. by_lt_z b.1 a.1
    (λ below. rw (north_cut a b z below)
    (cut_within e z b a held_b held_a below (omega (arith, ints, clamps, ends.0, below)) (omega (arith, ints, clamps, ends.1, below))))
    (λ back. rw (level_cut a b z (omega (arith, ints, past, back)))
    (omega (arith, ints, clamps, held_a.west, held_b.west), omega (arith, ints, clamps, held_a.east, held_b.east))))

one_within : (e : Extent) (z : ℤ) (row : Option Extent) (d : Edge) → AreWithin e row → StaysWithin e z d → AreWithin e (with_edge z row d)
unfolding with_edge joined
one_within e z None d within stays =
    elim (cases_Bool (reaches z d)) [
      | inl there ↦ rw there (stays there)
      | inr apart ↦ rw apart tt
    ]
one_within e z (Some row) d within stays =
    elim (cases_Bool (reaches z d)) [
      | inl there ↦
          let more = stays there in
          rw there (omega (arith, ints, clamps, within.0, more.0), omega (arith, ints, clamps, within.1, more.1))
      | inr apart ↦ rw apart within
    ]

all_within : (e : Extent) (z : ℤ) (row : Option Extent) (ds : List Edge) → AreWithin e row → AllByRecursion (StaysWithin e z) ds
    → AreWithin e (with_edges z row ds)
all_within e z row [] within each = within
all_within e z row (d ∷ ds) within each = all_within e z (with_edge z row d) ds (one_within e z row d within each.0) each.1

polygon_within : (points : List Column) (z : ℤ) → AreWithin (of_points points) (with_edges z None (edges points))
unfolding of_points
polygon_within [] z = tt
polygon_within (a ∷ bs) z =
    let e = widened_by (one_column a) (a ∷ bs) in
    subst (λ ds. AreWithin e (with_edges z None ds)) (sym (edges_are a bs))
    (all_within e z None (closed a bs) tt
    (of_closed (Held e) (StaysWithin e z) (edge_within e z) a bs (all_held (one_column a) (a ∷ bs))))

cuboid_within : (a b : Pos) (z : ℤ) → AreWithin (of_corners a b) (row_between a b z)
unfolding of_corners row_between
cuboid_within a b z =
    elim (cases_Bool (is_amid a.z b.z z)) [
      | inl there ↦ rw there (omega (arith, ints), omega (arith, ints))
      | inr apart ↦ rw apart tt
    ]

pub rows_lie_within : RowsLieWithin
unfolding extent_of row_of
rows_lie_within (Cuboid a b) z row is = subst (AreWithin (of_corners a b)) is (cuboid_within a b z)
rows_lie_within (Polygon points low high) z row is = subst (AreWithin (of_points points)) is (polygon_within points z)
