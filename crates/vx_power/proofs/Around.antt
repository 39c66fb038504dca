-- Positions a few columns apart, and the columns around a sector that hold them.
use Rattle.std.proofs.Common.{◌≡◌, ℕ, ◌+◌, ◌≤◌, ℤ, pos, ◌+ℤ◌, ◌-ℤ◌, ◌≤ℤ◌, ◌<ℤ◌, true, inl, inr, subst, arith}
use Rattle.std.proofs.lemmas.Int.{ints}
use Rattle.vx_geom.specs.declared.dir.Dir.{Dir}
use Rattle.vx_geom.specs.declared.dir.Dir.TheVariants.{East, West, Up, Down, South, North}
use Rattle.vx_geom.specs.declared.pos.Pos.{Pos}
use Rattle.vx_geom.specs.Neighbor.{neighbor}
use Rattle.vx_geom.specs.Places.{west, north}
use Rattle.vx_geom.specs.Sizes.{Sizes, span}
use Rattle.vx_block.specs.declared.cell.Cell.{Cell}
use Rattle.vx_block.specs.States.{side_dir}
use Rattle.vx_power.specs.declared.columns.Columns.{Columns}
use Rattle.vx_power.specs.Dust.{beside, over, under, links}
use Rattle.vx_power.specs.Levels.{is_in, columns_around}
use Rattle.vx_power.specs.Walks.{IsAmong}
use Rattle.vx_power.proofs.Linking.{Linked, links_at}

-- q is at most so many columns off p
pub record IsOff (n : ℕ) (p q : Pos) : Type 0 where
  pub west : p.x ≤ℤ (q.x +ℤ pos n)
  pub east : q.x ≤ℤ (p.x +ℤ pos n)
  pub north : p.z ≤ℤ (q.z +ℤ pos n)
  pub south : q.z ≤ℤ (p.z +ℤ pos n)

-- a position is no column off itself
pub itself : (p : Pos) → IsOff 0 p p
itself p = omega (arith, ints)

-- a step leads at most one column further
pub step_off : (n : ℕ) (p q : Pos) (d : Dir) → IsOff n p q → IsOff (n + 1) p (neighbor q d)
step_off n p q East off = omega (arith, ints)
step_off n p q West off = omega (arith, ints)
step_off n p q Up off = omega (arith, ints)
step_off n p q Down off = omega (arith, ints)
step_off n p q South off = omega (arith, ints)
step_off n p q North off = omega (arith, ints)

-- columns off a position that is some columns off
pub off_joined : (a b : ℕ) (p q r : Pos) → IsOff a p q → IsOff b q r → IsOff (a + b) p r
off_joined a b p q r first second = omega (arith, ints)

-- what lies over a position is in its column
over_off : (n : ℕ) (p q : Pos) → IsOff n p q → IsOff n p (over q)
over_off n p q off = omega (arith, ints)

-- and what lies under it too
under_off : (n : ℕ) (p q : Pos) → IsOff n p q → IsOff n p (under q)
under_off n p q off = omega (arith, ints)

-- a link leads at most one column further
pub link_off : (w : Pos → Cell) (p q : Pos) → IsAmong (links w p) q → IsOff 1 p q
unfolding Linked
link_off w p q linked =
    let at = links_at w p q linked in
    let next = beside p at.1.0 in
    let off = step_off 0 p p (side_dir at.1.0) (itself p) in
    elim at.1.1 [
      | inl level ↦ subst (IsOff 1 p) level.1 off
      | inr sloped ↦ elim sloped [
        | inl up ↦ subst (IsOff 1 p) up.1 (over_off 1 p next off)
        | inr down ↦ subst (IsOff 1 p) down.1 (under_off 1 p next off)
      ]
    ]

-- a position that these columns hold
pub record LiesIn (c : Columns) (p : Pos) : Type 0 where
  pub west : c.west ≤ℤ p.x
  pub east : p.x <ℤ c.east
  pub north : c.north ≤ℤ p.z
  pub south : p.z <ℤ c.south

-- the test tells that they hold it
pub lies_in : (c : Columns) (p : Pos) → is_in c p ≡ true → LiesIn c p
lies_in c p is = record {
  west = grind (arith, ints);
  east = grind (arith, ints);
  north = grind (arith, ints);
  south = grind (arith, ints);
}

-- and where they hold it the test passes
pub in_columns : (c : Columns) (p : Pos) → LiesIn c p → is_in c p ≡ true
in_columns c p lies = grind (arith, ints)

-- a western or northern border so many columns further out holds what lies so many off
low_kept : (a d n e : ℕ) (x y : ℤ) → d + n ≤ e → (pos a -ℤ pos d) ≤ℤ x → x ≤ℤ (y +ℤ pos n)
    → (pos a -ℤ pos e) ≤ℤ y
low_kept a d n e x y more low off = omega (arith, ints)

-- and so does an eastern or southern one
high_kept : (b d n e : ℕ) (x y : ℤ) → d + n ≤ e → x <ℤ pos (b + d) → y ≤ℤ (x +ℤ pos n) → y <ℤ pos (b + e)
high_kept b d n e x y more high off = omega (arith, ints)

-- what lies n columns off a position is held by n columns more around the sector
pub wider : (v : Sizes) (k d n e : ℕ) (p q : Pos) → d + n ≤ e → IsOff n p q
    → is_in (columns_around v k d) p ≡ true → is_in (columns_around v k e) q ≡ true
wider v k d n e p q more off is =
    let lies = lies_in (columns_around v k d) p is in
    in_columns (columns_around v k e) q (record {
      west = low_kept (west v k) d n e p.x q.x more lies.west off.west;
      east = high_kept (west v k + span v) d n e p.x q.x more lies.east off.east;
      north = low_kept (north v k) d n e p.z q.z more lies.north off.north;
      south = high_kept (north v k + span v) d n e p.z q.z more lies.south off.south;
    })
