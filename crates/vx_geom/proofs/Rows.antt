-- The columns that are told of a row hold each position of the shape there.
use Rattle.std.proofs.Common.{◌≡◌, ℤ, pos, ◌+ℤ◌, ◌≤ℤ◌, ◌<ℤ◌, ◌%◌, ◌==◌, true, false, ◌||◌, List, [], ◌∷◌, Some, None, Option, inl, inr, MatchOption, arith, refl, ap, subst, sym}
use Rattle.std.specs.Prelude.{int_le, int_lt}
use Rattle.std.specs.Ordering.{int_eq}
use Rattle.std.specs.Int.{int_min, int_max}
use Rattle.std.specs.List.{list_any, AllByRecursion}
use Rattle.std.proofs.lemmas.Int.{ints, clamps, by_lt_z}
use Rattle.std.proofs.lemmas.Bool.{false≢true, and_parts, and_from, or_cases, false_from_ne_true, both_ways, cases_Bool}
use Rattle.std.proofs.lemmas.Bool.Decides.{Decides-int_eq}
use Rattle.vx_base.proofs.Lists.{all_weaker}
use Rattle.vx_geom.specs.declared.pos.Pos.{Pos}
use Rattle.vx_geom.specs.declared.extent.Extent.{Extent}
use Rattle.vx_geom.specs.Polygon.{Column, Edge, is_between, in_box, cross, on_edge, spans, passes_east, meets_ray, is_enclosed, in_polygon, edges}
use Rattle.vx_geom.specs.Outline.{Cuboid, Polygon, is_in, in_cuboid, in_columns}
use Rattle.vx_geom.specs.Row.{shift, crossing, along, stretch, reaches, joined, with_edge, with_edges, row_between, row_of, RowsHoldPositions}
use Rattle.vx_geom.proofs.Crossing.{spans_at, not_met, not_spanning, passing, met_where, is_level, turned}
use Rattle.vx_geom.proofs.Slopes.{west_of_cut, east_of_cut, at_cut}
use Rattle.vx_geom.proofs.Ways.{Changes, closed, edges_are, any_along, none_along, even_closed}

-- the columns of a row hold all of a stretch
abbrev Has : Option Extent → Extent → Type 0
Has None s = ⊥
Has (Some row) s = (row.west ≤ℤ s.west) × (s.east ≤ℤ row.east)

now_has : (z : ℤ) (row : Option Extent) (e : Edge) → reaches z e ≡ true → Has (with_edge z row e) (stretch z e)
unfolding with_edge joined
now_has z None e there = rw there (omega (arith, ints), omega (arith, ints))
now_has z (Some row) e there = rw there (omega (arith, ints, clamps), omega (arith, ints, clamps))

still_has : (z : ℤ) (row : Option Extent) (e : Edge) (s : Extent) → Has row s → Has (with_edge z row e) s
unfolding with_edge joined
still_has z None e s has = absurd has
still_has z (Some row) e s has =
    elim (cases_Bool (reaches z e)) [
      | inl there ↦ rw there (omega (arith, ints, clamps, has.0), omega (arith, ints, clamps, has.1))
      | inr apart ↦ rw apart has
    ]

stays : (z : ℤ) (row : Option Extent) (es : List Edge) (s : Extent) → Has row s → Has (with_edges z row es) s
stays z row [] s has = has
stays z row (e ∷ es) s has = stays z (with_edge z row e) es s (still_has z row e s has)

-- the stretch of the edge in the row, if it meets it, is one of the columns
abbrev HasOf : ℤ → Option Extent → Edge → Type 0
HasOf z row e = reaches z e ≡ true → Has row (stretch z e)

all_had : (z : ℤ) (row : Option Extent) (es : List Edge) → AllByRecursion (HasOf z (with_edges z row es)) es
all_had z row [] = tt
all_had z row (e ∷ es) =
    (λ there. stays z (with_edge z row e) es (stretch z e) (now_has z row e there), all_had z (with_edge z row e) es)

pub south_cut : (a b : Column) (z : ℤ) → a.1 <ℤ b.1 → stretch z (a, b) ≡ crossing a b z
unfolding stretch
south_cut a b z below =
    let is : int_lt a.1 b.1 ≡ true = grind (arith, ints, below) in
    rw is refl

pub north_cut : (a b : Column) (z : ℤ) → b.1 <ℤ a.1 → stretch z (a, b) ≡ crossing b a z
unfolding stretch
north_cut a b z below =
    let is : int_lt b.1 a.1 ≡ true = grind (arith, ints, below) in
    let back : int_lt a.1 b.1 ≡ false = false_from_ne_true _ (λ h. omega (arith, ints, h, below)) in
    rw (back, is) refl

pub level_cut : (a b : Column) (z : ℤ) → a.1 ≡ b.1 → stretch z (a, b) ≡ along a b z
unfolding stretch
level_cut a b z same =
    let there : int_lt a.1 b.1 ≡ false = false_from_ne_true _ (λ h. omega (arith, ints, h, same)) in
    let back : int_lt b.1 a.1 ≡ false = false_from_ne_true _ (λ h. omega (arith, ints, h, same)) in
    rw (there, back) refl

is_amid : (a b z : ℤ) → int_min a b ≤ℤ z → z ≤ℤ int_max a b → is_between a b z ≡ true
unfolding is_between
is_amid a b z low high = and_from (int_le (int_min a b) z) (int_le z (int_max a b)) (grind (arith, ints, low)) (grind (arith, ints, high))

-- an edge of which one way spans the row of a position reaches it
reaches_south : (a b : Column) (p : Pos) → a.1 ≤ℤ p.z → p.z <ℤ b.1 → reaches p.z (a, b) ≡ true
unfolding reaches
reaches_south a b p from below = is_amid a.1 b.1 p.z (omega (arith, ints, clamps, from)) (omega (arith, ints, clamps, below))

reaches_north : (a b : Column) (p : Pos) → b.1 ≤ℤ p.z → p.z <ℤ a.1 → reaches p.z (a, b) ≡ true
unfolding reaches
reaches_north a b p from below = is_amid a.1 b.1 p.z (omega (arith, ints, clamps, from)) (omega (arith, ints, clamps, below))

module _ (row : Extent) (p : Pos) where
  -- the columns hold where a way to the south crosses the row
  record HasCrossing (a b : Column) : Type 0 where
    below : a.1 <ℤ b.1
    west : row.west ≤ℤ (a.0 +ℤ shift a b p.z)
    east : (a.0 +ℤ shift a b p.z) ≤ℤ row.east

  has_south : (a b : Column) → HasOf p.z (Some row) (a, b) → spans a b p ≡ true → HasCrossing a b
  unfolding crossing
  has_south a b has span =
      let ends = spans_at a b p span in
      let below : a.1 <ℤ b.1 = omega (arith, ints, ends.0, ends.1) in
      let held = subst (Has (Some row)) (south_cut a b p.z below) (has (reaches_south a b p ends.0 ends.1)) in
      record { below = below; west = held.0; east = held.1 }

  has_north : (a b : Column) → HasOf p.z (Some row) (a, b) → spans b a p ≡ true → HasCrossing b a
  unfolding crossing
  has_north a b has span =
      let ends = spans_at b a p span in
      let below : b.1 <ℤ a.1 = omega (arith, ints, ends.0, ends.1) in
      let held = subst (Has (Some row)) (north_cut a b p.z below) (has (reaches_north a b p ends.0 ends.1)) in
      record { below = below; west = held.0; east = held.1 }

  -- west of the columns each edge that spans the row lies east of the position
  is_east : (a b : Column) → p.x <ℤ row.west → HasCrossing a b → pos 0 <ℤ cross a b p
  is_east a b west held = west_of_cut a b p held.below (omega (arith, ints, west, held.west))

  west_of : p.x <ℤ row.west → (e : Edge) → HasOf p.z (Some row) e → Changes (meets_ray p) (is_level p) e
  west_of west (a, b) has =
      met_where a b p (passing a b p (λ span. is_east a b west (has_south a b has span)))
      (passing b a p (λ span. is_east b a west (has_north a b has span)))

  -- and east of them none meets the ray
  is_west : (a b : Column) → row.east <ℤ p.x → (spans a b p ≡ true → HasCrossing a b) → passes_east a b p ≡ false
  unfolding passes_east
  is_west a b east held =
      false_from_ne_true _ (λ passes.
      let parts = and_parts (spans a b p) (int_lt (pos 0) (cross a b p)) passes in
      let at = held parts.0 in
      omega (arith, ints, parts.1, east_of_cut a b p at.below (omega (arith, ints, east, at.east))))

  east_of : row.east <ℤ p.x → (e : Edge) → HasOf p.z (Some row) e → meets_ray p e ≡ false
  east_of east (a, b) has = not_met a b p (is_west a b east (has_south a b has)) (is_west b a east (has_north a b has))

-- the position's column is one of the row's
abbrev Holds : Option Extent → Pos → Type 0
Holds row p = MatchOption row ⊥ (λ e. (e.west ≤ℤ p.x) × (p.x ≤ℤ e.east))

holds_all : (row : Option Extent) (s : Extent) (p : Pos) → Has row s → s.west ≤ℤ p.x → p.x ≤ℤ s.east → Holds row p
holds_all None s p has west east = has
holds_all (Some row) s p has west east = (omega (arith, ints, has.0, west), omega (arith, ints, has.1, east))

-- a position on an edge is among the columns of its row that the edge meets
touched : (a b : Column) (p : Pos) → is_between a.0 b.0 p.x ≡ true → cross a b p ≡ pos 0
    → ((stretch p.z (a, b)).west ≤ℤ p.x) × (p.x ≤ℤ (stretch p.z (a, b)).east)
unfolding crossing along is_between
touched a b p amid on =
    by_lt_z a.1 b.1
    (λ below.
    let at = at_cut a b p below on in
    rw (south_cut a b p.z below) (omega (arith, ints, at), omega (arith, ints, at)))
    (λ past. by_lt_z b.1 a.1
    (λ below.
    let at = at_cut b a p below (omega (arith, ints, turned a b p, on)) in
    rw (north_cut a b p.z below) (omega (arith, ints, at), omega (arith, ints, at)))
    (λ back.
    let ends = and_parts (int_le (int_min a.0 b.0) p.x) (int_le p.x (int_max a.0 b.0)) amid in
    rw (level_cut a b p.z (omega (arith, ints, past, back))) (omega (arith, ints, ends.0), omega (arith, ints, ends.1))))

on_edge_held : (row : Option Extent) (p : Pos) (e : Edge) → HasOf p.z row e → on_edge p e ≡ true → Holds row p
unfolding on_edge in_box reaches
on_edge_held row p (a, b) has on =
    let parts = and_parts (in_box a b p) (int_eq (cross a b p) (pos 0)) on in
    let box = and_parts (is_between a.0 b.0 p.x) (is_between a.1 b.1 p.z) parts.0 in
    let amid = touched a b p box.0 ((Decides-int_eq (cross a b p) (pos 0)).0 parts.1) in
    holds_all row (stretch p.z (a, b)) p (has box.1) amid.0 amid.1

-- where no edge reaches the row none meets the ray
none_met : (p : Pos) (e : Edge) → HasOf p.z None e → meets_ray p e ≡ false
none_met p (a, b) none =
    not_met a b p
    (not_spanning a b p (false_from_ne_true _ (λ span. let ends = spans_at a b p span in none (reaches_south a b p ends.0 ends.1))))
    (not_spanning b a p (false_from_ne_true _ (λ span. let ends = spans_at b a p span in none (reaches_north a b p ends.0 ends.1))))

none_enclosed : (p : Pos) (es : List Edge) → AllByRecursion (λ e. meets_ray p e ≡ false) es → is_enclosed p es ≡ false
unfolding is_enclosed
none_enclosed p es none = ap (λ n. n % 2 == 1) (none_along (meets_ray p) es none)

even_enclosed : (p : Pos) (a : Column) (bs : List Column) → AllByRecursion (Changes (meets_ray p) (is_level p)) (closed a bs)
    → is_enclosed p (closed a bs) ≡ false
unfolding is_enclosed
even_enclosed p a bs each = even_closed (meets_ray p) (is_level p) a bs each

enclosed_held : (row : Option Extent) (p : Pos) (a : Column) (bs : List Column) → AllByRecursion (HasOf p.z row) (closed a bs)
    → is_enclosed p (closed a bs) ≡ true → Holds row p
enclosed_held None p a bs has enclosed =
    both_ways _ (none_enclosed p (closed a bs) (all_weaker _ _ (none_met p) (closed a bs) has)) enclosed
enclosed_held (Some row) p a bs has enclosed = (
  by_lt_z p.x row.west
      (λ west. absurd (both_ways _ (even_enclosed p a bs (all_weaker _ _ (west_of row p west) (closed a bs) has)) enclosed))
      (λ past. past),
  by_lt_z row.east p.x
      (λ east. absurd (both_ways _ (none_enclosed p (closed a bs) (all_weaker _ _ (east_of row p east) (closed a bs) has)) enclosed))
      (λ past. past),
)

row_held : (row : Option Extent) (p : Pos) (a : Column) (bs : List Column) → AllByRecursion (HasOf p.z row) (closed a bs)
    → (list_any (on_edge p) (closed a bs) || is_enclosed p (closed a bs)) ≡ true → Holds row p
row_held row p a bs has inside =
    elim (or_cases (list_any (on_edge p) (closed a bs)) (is_enclosed p (closed a bs)) inside) [
      | inl touches ↦
          any_along (on_edge p) (Holds row p) (closed a bs)
          (all_weaker _ _ (on_edge_held row p) (closed a bs) has) touches
      | inr enclosed ↦ enclosed_held row p a bs has enclosed
    ]

polygon_held : (points : List Column) (p : Pos) → in_polygon points p ≡ true → Holds (with_edges p.z None (edges points)) p
unfolding in_polygon is_enclosed
polygon_held [] p inside = absurd (false≢true inside)
polygon_held (a ∷ bs) p inside =
    let ways = edges_are a bs in
    subst (λ es. Holds (with_edges p.z None es) p) (sym ways)
    (row_held (with_edges p.z None (closed a bs)) p a bs (all_had p.z None (closed a bs))
    (subst (λ es. (list_any (on_edge p) es || is_enclosed p es) ≡ true) ways inside))

pub rows_hold_positions : RowsHoldPositions
unfolding is_in in_cuboid in_columns row_of row_between
rows_hold_positions (Cuboid a b) p inside =
    let sides = and_parts _ _ (and_parts _ _ inside).0 in
    let ends = and_parts (int_le a.x p.x) (int_le p.x b.x) sides.0 in
    rw sides.1 (omega (arith, ints, ends.0), omega (arith, ints, ends.1))
rows_hold_positions (Polygon points low high) p inside = polygon_held points p (and_parts _ _ inside).1
