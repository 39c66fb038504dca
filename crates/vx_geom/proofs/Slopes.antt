-- Where an edge that leads from one row to another further south meets a row, cut to a whole column.
use Rattle.std.proofs.Common.{◌≡◌, pos, ◌<◌, true, arith}
use Rattle.std.specs.Prelude.{ℤ, ◌≤ℤ◌, ◌<ℤ◌, ◌+ℤ◌, ◌-ℤ◌, ◌*ℤ◌, int_le, int_div, unsigned_abs}
use Rattle.std.specs.Int.{int_min, int_max}
use Rattle.std.proofs.lemmas.Bool.{and_parts}
use Rattle.std.proofs.lemmas.Int.{ints, by_lt_z, quot-rem, rem_below}
use Rattle.std.proofs.Math.IntN.{*ℤ_comm}
use Rattle.vx_geom.specs.declared.pos.Pos.{Pos}
use Rattle.vx_geom.specs.Polygon.{Column, is_between, cross}
use Rattle.vx_geom.specs.Row.{LiesWithin, shift, reaches}
use Rattle.vx_geom.proofs.Crossing.{not_negative, less_times}

one_times : (c : ℤ) → (pos 1 *ℤ c) ≡ c
one_times c = omega (arith, ints)

-- a lesser number times a positive one is less by it at least
step_times : (a b c : ℤ) → a <ℤ b → pos 0 <ℤ c → (a *ℤ c +ℤ c) ≤ℤ (b *ℤ c)
step_times a b c less above =
    let gap = not_negative ((b -ℤ a) -ℤ pos 1) c (omega (arith, ints)) (omega (arith, ints)) in
    omega (arith, ints, gap, less_times (b -ℤ a) (pos 1) c, less_times b a c, one_times c)

-- a quotient times its divisor is less than a divisor away from what was divided
record Divided (n d q : ℤ) : Type 0 where
  low : (n -ℤ d) <ℤ (q *ℤ d)
  high : (q *ℤ d) <ℤ (n +ℤ d)

divided : (n d : ℤ) → pos 0 <ℤ d → Divided n d (int_div n d)
divided n d above =
    let below : 0 < unsigned_abs d = omega (arith, ints) in
    let rest = rem_below n d below in
    record {
      low = omega (arith, ints, quot-rem n d, rest);
      high = omega (arith, ints, quot-rem n d, rest);
    }

-- a quotient of a number times at most the divisor lies from 0 to that number
module _ (g w d : ℤ) (from : pos 0 ≤ℤ w) (to : w ≤ℤ d) (above : pos 0 <ℤ d) where
  forward : pos 0 ≤ℤ g → (pos 0 ≤ℤ int_div (g *ℤ w) d) × (int_div (g *ℤ w) d ≤ℤ g)
  forward positive =
      let q = int_div (g *ℤ w) d in
      let cut = divided (g *ℤ w) d above in
      let least = not_negative g w positive from in
      let most = not_negative (d -ℤ w) g (omega (arith, ints, to)) positive in
      let apart = less_times d w g in (
        by_lt_z q (pos 0)
            (λ below. absurd (omega (arith, ints, cut.low, least, step_times q (pos 0) d below above)))
            (λ past. past),
        by_lt_z g q
            (λ beyond. absurd (omega (arith, ints, cut.high, most, apart, *ℤ_comm d g, *ℤ_comm w g, step_times g q d beyond above)))
            (λ past. past),
      )

  backward : g <ℤ pos 0 → (g ≤ℤ int_div (g *ℤ w) d) × (int_div (g *ℤ w) d ≤ℤ pos 0)
  backward negative =
      let q = int_div (g *ℤ w) d in
      let cut = divided (g *ℤ w) d above in
      let least = not_negative (pos 0 -ℤ g) w (omega (arith, ints, negative)) from in
      let none = less_times (pos 0) g w in
      let most = not_negative (d -ℤ w) (pos 0 -ℤ g) (omega (arith, ints, to)) (omega (arith, ints, negative)) in
      let apart = less_times d w (pos 0 -ℤ g) in
      let of_d = less_times (pos 0) g d in
      let of_w = less_times (pos 0) g w in (
        by_lt_z q g
            (λ below. absurd (omega (arith, ints, cut.low, most, apart, *ℤ_comm d (pos 0 -ℤ g), *ℤ_comm w (pos 0 -ℤ g), of_d, of_w, step_times q g d below above)))
            (λ past. past),
        by_lt_z (pos 0) q
            (λ beyond. absurd (omega (arith, ints, cut.high, least, none, step_times (pos 0) q d beyond above)))
            (λ past. past),
      )

  pub lies_within : LiesWithin g (int_div (g *ℤ w) d)
  lies_within =
      by_lt_z g (pos 0)
      (λ negative.
      let ends = backward negative in
      record {
        low = λ low below_none below_g. omega (arith, ints, ends.0, below_g);
        high = λ high above_none above_g. omega (arith, ints, ends.1, above_none);
      })
      (λ positive.
      let ends = forward positive in
      record {
        low = λ low below_none below_g. omega (arith, ints, ends.0, below_none);
        high = λ high above_none above_g. omega (arith, ints, ends.1, above_g);
      })

-- where an edge reaches a row, by numbers
pub reached : (a b : Column) (z : ℤ) → reaches z (a, b) ≡ true → (int_min a.1 b.1 ≤ℤ z) × (z ≤ℤ int_max a.1 b.1)
unfolding reaches is_between
reached a b z reaches =
    let parts = and_parts (int_le (int_min a.1 b.1) z) (int_le z (int_max a.1 b.1)) reaches in
    (omega (arith, ints, parts.0), omega (arith, ints, parts.1))

-- west of the column where it is cut a position lies west of the edge
pub west_of_cut : (a b : Column) (p : Pos) → a.1 <ℤ b.1 → p.x <ℤ (a.0 +ℤ shift a b p.z) → pos 0 <ℤ cross a b p
unfolding shift cross
west_of_cut a b p below west =
    let n = (b.0 -ℤ a.0) *ℤ (p.z -ℤ a.1) in
    let d = b.1 -ℤ a.1 in
    let above : pos 0 <ℤ d = omega (arith, ints) in
    let cut = divided n d above in
    let step = step_times (p.x -ℤ a.0) (int_div n d) d (omega (arith, ints, west)) above in
    omega (arith, ints, cut.high, step, *ℤ_comm d (p.x -ℤ a.0))

-- and east of it east
pub east_of_cut : (a b : Column) (p : Pos) → a.1 <ℤ b.1 → (a.0 +ℤ shift a b p.z) <ℤ p.x → cross a b p <ℤ pos 0
unfolding shift cross
east_of_cut a b p below east =
    let n = (b.0 -ℤ a.0) *ℤ (p.z -ℤ a.1) in
    let d = b.1 -ℤ a.1 in
    let above : pos 0 <ℤ d = omega (arith, ints) in
    let cut = divided n d above in
    let step = step_times (int_div n d) (p.x -ℤ a.0) d (omega (arith, ints, east)) above in
    omega (arith, ints, cut.low, step, *ℤ_comm d (p.x -ℤ a.0))

-- so a position on the edge is in that column
pub at_cut : (a b : Column) (p : Pos) → a.1 <ℤ b.1 → cross a b p ≡ pos 0 → p.x ≡ (a.0 +ℤ shift a b p.z)
at_cut a b p below on =
    by_lt_z p.x (a.0 +ℤ shift a b p.z)
    (λ west. absurd (omega (arith, ints, on, west_of_cut a b p below west)))
    (λ past. by_lt_z (a.0 +ℤ shift a b p.z) p.x
    (λ east. absurd (omega (arith, ints, on, east_of_cut a b p below east)))
    (λ back. omega (arith, ints, past, back)))
