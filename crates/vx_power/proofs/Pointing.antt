-- Where dust points, by what it joins.
use Rattle.std.proofs.Common.{◌≡◌, Bool, true, false, not, ◌||◌, refl, ap, ◌∙◌}
use Rattle.vx_geom.specs.declared.pos.Pos.{Pos}
use Rattle.vx_block.specs.declared.cell.Cell.{Cell}
use Rattle.vx_block.specs.declared.side.Side.{Side}
use Rattle.vx_block.specs.declared.side.Side.TheVariants.{East, West, South, North}
use Rattle.vx_block.specs.Sides.{side_back, side_right}
use Rattle.vx_power.specs.Dust.{joins, points}
use Rattle.vx_power.specs.Laws.{joins_along, PointsToAll, PointsAlong, PointsToJoins}

or_true : (a : Bool) → (a || true) ≡ true
or_true true = refl
or_true false = refl

swap : (a b : Bool) → (a || b) ≡ (b || a)
swap true true = refl
swap true false = refl
swap false true = refl
swap false false = refl

back_twice : (s : Side) → side_back (side_back s) ≡ s
back_twice East = refl
back_twice West = refl
back_twice South = refl
back_twice North = refl

right_back : (s : Side) → side_right (side_back s) ≡ side_back (side_right s)
right_back East = refl
right_back West = refl
right_back South = refl
right_back North = refl

right_twice : (s : Side) → side_right (side_right s) ≡ side_back s
right_twice East = refl
right_twice West = refl
right_twice South = refl
right_twice North = refl

-- nothing across: it points there
nothing_across : (w : Pos → Cell) (p : Pos) (side : Side) → joins_along w p (side_right side) ≡ false → points w p side ≡ true
unfolding points
nothing_across w p side none = ap (λ b. joins w p side || not b) none ∙ or_true (joins w p side)

-- something across: it points there where it joins
something_across : (w : Pos → Cell) (p : Pos) (side : Side) → joins_along w p (side_right side) ≡ true → points w p side ≡ joins w p side
unfolding points
something_across w p side some = ap (λ b. joins w p side || not b) some ∙ or_false (joins w p side)
  where
    or_false : (a : Bool) → (a || false) ≡ a
    or_false true = refl
    or_false false = refl

pub points_to_all : PointsToAll
points_to_all w p none side =
    nothing_across w p side (ap (λ b. b || joins w p (side_back (side_right side))) (none (side_right side)) ∙ none (side_back (side_right side)))

pub points_to_joins : PointsToJoins
points_to_joins w p side some = something_across w p side some

-- the axis is the same from its other end
along_back : (w : Pos → Cell) (p : Pos) (side : Side) → joins_along w p (side_back side) ≡ joins_along w p side
along_back w p side =
    ap (λ s. joins w p (side_back side) || joins w p s) (back_twice side) ∙ swap (joins w p (side_back side)) (joins w p side)

parts_false : (a b : Bool) → (a || b) ≡ false → (a ≡ false) × (b ≡ false)
parts_false true b h = cc
parts_false false b h = (refl, h)

pub points_along : PointsAlong
points_along w p side some none =
    let across = parts_false (joins w p (side_right side)) (joins w p (side_back (side_right side))) none in
    let none_back : joins_along w p (side_right (side_back side)) ≡ false =
    ap (joins_along w p) (right_back side) ∙ along_back w p (side_right side) ∙ none in
    let some_right : joins_along w p (side_right (side_right side)) ≡ true =
    ap (joins_along w p) (right_twice side) ∙ along_back w p side ∙ some in
    let some_left : joins_along w p (side_right (side_back (side_right side))) ≡ true =
    ap (joins_along w p) (right_back (side_right side)) ∙ along_back w p (side_right (side_right side)) ∙ some_right in (
      nothing_across w p side none,
      nothing_across w p (side_back side) none_back,
      something_across w p (side_right side) some_right ∙ across.0,
      something_across w p (side_back (side_right side)) some_left ∙ across.1,
    )
