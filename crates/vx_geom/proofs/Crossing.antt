-- Where an edge that spans the row of a position passes it: west of it where the position is east of
-- both ends, and east of it where the position is west of both.
use Rattle.std.proofs.Common.{◌≡◌, zero, suc, pos, negsuc, ◌+◌, ◌*◌, Bool, true, false, ◌&&◌, ◌||◌, not, inl, inr, arith, ap, sym, refl, ◌∙◌}
use Rattle.std.specs.Prelude.{ℤ, int_le, int_lt, ◌≤ℤ◌, ◌<ℤ◌, ◌+ℤ◌, ◌-ℤ◌, ◌*ℤ◌}
use Rattle.std.proofs.lemmas.Int.{ints}
use Rattle.std.proofs.lemmas.Bool.{and_parts, and_from, and_left, or_from, false_from_ne_true, cases_Bool}
use Rattle.std.proofs.Math.IntN.{*ℤ_comm, pos-*ℤ-pos}
use borrow.Author.Differences.{up, down}
use Rattle.vx_geom.specs.declared.pos.Pos.{Pos}
use Rattle.vx_geom.specs.Polygon.{Column, cross, spans, passes_east, meets_ray}
use Rattle.vx_geom.proofs.Ways.{is_one}

-- products of signed numbers by their signs
positive : (a b : ℤ) → pos 0 <ℤ a → pos 0 <ℤ b → pos 0 <ℤ (a *ℤ b)
positive (pos (suc m)) (pos (suc n)) low_a low_b = rw pos-*ℤ-pos (omega (arith, ints))
positive (pos zero) b low_a low_b = absurd (omega (arith, ints))
positive (pos (suc m)) (pos zero) low_a low_b = absurd (omega (arith, ints))
positive (pos (suc m)) (negsuc n) low_a low_b = absurd (omega (arith, ints))
positive (negsuc m) b low_a low_b = absurd (omega (arith, ints))

pub not_negative : (a b : ℤ) → pos 0 ≤ℤ a → pos 0 ≤ℤ b → pos 0 ≤ℤ (a *ℤ b)
not_negative (pos m) (pos n) low_a low_b = rw pos-*ℤ-pos (omega (arith, ints))
not_negative (pos m) (negsuc n) low_a low_b = absurd (omega (arith, ints))
not_negative (negsuc m) b low_a low_b = absurd (omega (arith, ints))

pub less_times : (a b c : ℤ) → ((a -ℤ b) *ℤ c) ≡ (a *ℤ c -ℤ b *ℤ c)
less_times a b c =
    let gap : up (a -ℤ b) + down a + up b ≡ down (a -ℤ b) + up a + down b = omega (arith, ints) in
    omega (arith, ints, ap (λ n. n * up c) gap, ap (λ n. n * down c) gap)

-- a product of two gaps with its first gap the other way round
turned_times : (a b c : ℤ) → ((a -ℤ b) *ℤ c +ℤ (b -ℤ a) *ℤ c) ≡ pos 0
turned_times a b c = omega (arith, ints, less_times a b c, less_times b a c)

-- how the cross product is made of the gaps between the position and the two ends
by_gaps : (a b : Column) (p : Pos)
    → (cross a b p +ℤ ((p.x -ℤ b.0) *ℤ (p.z -ℤ a.1) +ℤ (p.x -ℤ a.0) *ℤ (b.1 -ℤ p.z))) ≡ pos 0
unfolding cross
by_gaps a b p =
    let to_a = p.x -ℤ a.0 in
    let to_b = p.x -ℤ b.0 in
    let down_a = p.z -ℤ a.1 in
    let whole = b.1 -ℤ a.1 in
    let first : ((b.0 -ℤ a.0) *ℤ down_a) ≡ (to_a *ℤ down_a -ℤ to_b *ℤ down_a) =
    ap (λ n. n *ℤ down_a) (let gap : (b.0 -ℤ a.0) ≡ (to_a -ℤ to_b) = omega (arith, ints) in gap) ∙ less_times to_a to_b down_a in
    let second : ((b.1 -ℤ p.z) *ℤ to_a) ≡ (whole *ℤ to_a -ℤ down_a *ℤ to_a) =
    ap (λ n. n *ℤ to_a) (let gap : (b.1 -ℤ p.z) ≡ (whole -ℤ down_a) = omega (arith, ints) in gap) ∙ less_times whole down_a to_a in
    omega (arith, ints, first, second, *ℤ_comm down_a to_a, *ℤ_comm (b.1 -ℤ p.z) to_a)

-- the cross product of the way back is its negative
pub turned : (a b : Column) (p : Pos) → (cross a b p +ℤ cross b a p) ≡ pos 0
turned a b p =
    let to_a = p.x -ℤ a.0 in
    let to_b = p.x -ℤ b.0 in
    omega (
      arith,
      ints,
      by_gaps a b p,
      by_gaps b a p,
      turned_times p.z a.1 to_b,
      turned_times p.z b.1 to_a,
      *ℤ_comm to_b (p.z -ℤ a.1),
      *ℤ_comm to_b (a.1 -ℤ p.z),
      *ℤ_comm to_a (p.z -ℤ b.1),
      *ℤ_comm to_a (b.1 -ℤ p.z),
    )

-- an edge that spans the row passes west of a position east of both ends
passed_west : (a b : Column) (p : Pos) → a.0 <ℤ p.x → b.0 <ℤ p.x → a.1 ≤ℤ p.z → p.z <ℤ b.1 → cross a b p <ℤ pos 0
passed_west a b p past_a past_b above below =
    let first = not_negative (p.x -ℤ b.0) (p.z -ℤ a.1) (omega (arith, ints)) (omega (arith, ints)) in
    let second = positive (p.x -ℤ a.0) (b.1 -ℤ p.z) (omega (arith, ints)) (omega (arith, ints)) in
    omega (arith, ints, by_gaps a b p, first, second)

-- and east of one west of both ends
passed_east : (a b : Column) (p : Pos) → p.x <ℤ a.0 → p.x <ℤ b.0 → a.1 ≤ℤ p.z → p.z <ℤ b.1 → pos 0 <ℤ cross a b p
passed_east a b p past_a past_b above below =
    let first = not_negative (b.0 -ℤ p.x) (p.z -ℤ a.1) (omega (arith, ints)) (omega (arith, ints)) in
    let second = positive (a.0 -ℤ p.x) (b.1 -ℤ p.z) (omega (arith, ints)) (omega (arith, ints)) in
    omega (
      arith,
      ints,
      by_gaps a b p,
      first,
      second,
      turned_times p.x b.0 (p.z -ℤ a.1),
      turned_times p.x a.0 (b.1 -ℤ p.z),
    )

-- what spans the row, by numbers
pub spans_at : (a b : Column) (p : Pos) → spans a b p ≡ true → (a.1 ≤ℤ p.z) × (p.z <ℤ b.1)
unfolding spans
spans_at a b p same =
    let parts = and_parts (int_le a.1 p.z) (int_lt p.z b.1) same in
    (omega (arith, ints, parts.0), omega (arith, ints, parts.1))

-- what has no passing edge is met by no ray
pub not_met : (a b : Column) (p : Pos) → passes_east a b p ≡ false → passes_east b a p ≡ false → meets_ray p (a, b) ≡ false
unfolding meets_ray
not_met a b p there back = or_from (passes_east a b p) (passes_east b a p) there back

-- a way that does not span the row passes nowhere
pub not_spanning : (a b : Column) (p : Pos) → spans a b p ≡ false → passes_east a b p ≡ false
unfolding passes_east
not_spanning a b p none = and_left (spans a b p) (int_lt (pos 0) (cross a b p)) none

pub not_passing : (a b : Column) (p : Pos) → a.0 <ℤ p.x → b.0 <ℤ p.x → passes_east a b p ≡ false
unfolding passes_east
not_passing a b p past_a past_b =
    false_from_ne_true _ (λ passes.
    let parts = and_parts (spans a b p) (int_lt (pos 0) (cross a b p)) passes in
    let ends = spans_at a b p parts.0 in
    omega (arith, ints, parts.1, passed_west a b p past_a past_b ends.0 ends.1))

-- a way that lies east of the position wherever it spans the row passes where it spans it
pub passing : (a b : Column) (p : Pos) → (spans a b p ≡ true → pos 0 <ℤ cross a b p) → passes_east a b p ≡ spans a b p
unfolding passes_east
passing a b p east =
    elim (cases_Bool (spans a b p)) [
      | inl holds ↦
          let is_east = east holds in
          and_from (spans a b p) (int_lt (pos 0) (cross a b p)) holds (grind (arith, ints, is_east)) ∙ sym holds
      | inr fails ↦ and_left (spans a b p) (int_lt (pos 0) (cross a b p)) fails ∙ sym fails
    ]

passing_both : (a b : Column) (p : Pos) → p.x <ℤ a.0 → p.x <ℤ b.0 → passes_east a b p ≡ spans a b p
passing_both a b p past_a past_b =
    passing a b p (λ holds. let ends = spans_at a b p holds in passed_east a b p past_a past_b ends.0 ends.1)

-- the point is not south of the position
abbrev pub is_level : Pos → Column → Bool
is_level p c = int_le c.1 p.z

level_ends : (s t l : Bool) → l ≡ not t → (s && l || t && not s) ≡ is_one s t
level_ends true true l back = cc
level_ends true false l back = cc
level_ends false true l back = refl
level_ends false false l back = refl

south_is : (c : Column) (p : Pos) → int_lt p.z c.1 ≡ not (int_le c.1 p.z)
south_is c p =
    elim (cases_Bool (int_le c.1 p.z)) [
      | inl holds ↦ false_from_ne_true _ (λ south. omega (arith, ints, holds, south)) ∙ sym (ap not holds)
      | inr fails ↦ grind (arith, ints, fails)
    ]

-- an edge that is passed where it is spanned meets the ray where one end is south of the position and
-- the other not
pub met_where : (a b : Column) (p : Pos) → passes_east a b p ≡ spans a b p → passes_east b a p ≡ spans b a p
    → meets_ray p (a, b) ≡ is_one (is_level p a) (is_level p b)
unfolding meets_ray spans
met_where a b p there back =
    ap (λ t. t || passes_east b a p) there
    ∙ ap (λ t. spans a b p || t) back
    ∙ ap (λ t. spans a b p || (int_le b.1 p.z && t)) (south_is a p)
    ∙ level_ends (int_le a.1 p.z) (int_le b.1 p.z) (int_lt p.z b.1) (south_is b p)

-- so does one whose ends both lie east of it
pub met_by_level : (a b : Column) (p : Pos) → p.x <ℤ a.0 → p.x <ℤ b.0
    → meets_ray p (a, b) ≡ is_one (is_level p a) (is_level p b)
met_by_level a b p past_a past_b =
    met_where a b p (passing_both a b p past_a past_b) (passing_both b a p past_b past_a)
