use Rattle.std.proofs.Common.{◌≡◌, ℤ, ◌+ℤ◌, rules, arith, ap, ◌∙◌, SFits, w32, w64}
use Rattle.std.proofs.lemmas.Int.{to_z-of_z}
use mir.Val.{to_z, of_z}
use Rattle.vx_geom.specs.Polygon.{Column}
use Rattle.vx_geom.specs.Row.{shift, crossing, columns_of}
use Rattle.vx_geom.proofs.polygon.crossing.Goals as goal

wide : (n : ℤ) → SFits w32 n → SFits w64 n
wide n fits = record { sfits = omega (arith, fits.sfits) }

-- the column of the end and the way from it, as they are added
module _ (a b : Column) (z s from : ℤ) (a_x : SFits w32 a.0) (z_fits : SFits w32 z) (s_fits : SFits w64 s)
    (in_from : from ≡ to_z w32 (of_z w32 a.0)) (in_shift : s ≡ shift a b (to_z w32 (of_z w32 z))) (fits : SFits w32 (a.0 +ℤ s)) where
  shift_is : s ≡ shift a b z
  shift_is = in_shift ∙ ap (shift a b) (to_z-of_z w32 z z_fits)

  from_is : to_z w64 (of_z w64 from) ≡ a.0
  from_is = ap (λ n. to_z w64 (of_z w64 n)) (in_from ∙ to_z-of_z w32 a.0 a_x) ∙ to_z-of_z w64 a.0 (wide a.0 a_x)

  sum_is : to_z w64 (of_z w64 from) +ℤ to_z w64 (of_z w64 s) ≡ a.0 +ℤ s
  sum_is = ap (λ n. n +ℤ to_z w64 (of_z w64 s)) from_is ∙ ap (λ n. a.0 +ℤ n) (to_z-of_z w64 s s_fits)

  sum_fits : SFits w64 (to_z w64 (of_z w64 from) +ℤ to_z w64 (of_z w64 s))
  sum_fits = rw sum_is (wide _ fits)

  column_is : to_z w64 (of_z w64 (to_z w64 (of_z w64 from) +ℤ to_z w64 (of_z w64 s))) ≡ a.0 +ℤ s
  column_is = ap (λ n. to_z w64 (of_z w64 n)) sum_is ∙ to_z-of_z w64 _ (wide _ fits)

  column_fits : SFits w32 (to_z w64 (of_z w64 (to_z w64 (of_z w64 from) +ℤ to_z w64 (of_z w64 s))))
  column_fits = rw column_is fits

  narrowed : to_z w32 (of_z w32 (to_z w64 (of_z w64 (to_z w64 (of_z w64 from) +ℤ to_z w64 (of_z w64 s))))) ≡ a.0 +ℤ shift a b z
  narrowed = ap (λ n. to_z w32 (of_z w32 n)) column_is ∙ to_z-of_z w32 _ fits ∙ ap (λ n. a.0 +ℤ n) shift_is

pub overflow_add-x : goal.overflow_add-x
overflow_add-x c =
    let a_x : SFits w32 c.args.a.now.0 = search rules in
    sum_fits c.args.a.now c.args.b.now c.args.z c.shift.result c.from.result a_x c.ranges.z (record { sfits = c.shift.type_inv })
    c.from.ensures c.shift.ensures.value c.shift.ensures.fits

pub overflow_cast-x : goal.overflow_cast-x
overflow_cast-x c =
    let a_x : SFits w32 c.args.a.now.0 = search rules in
    column_fits c.args.a.now c.args.b.now c.args.z c.shift.result c.from.result a_x c.ranges.z (record { sfits = c.shift.type_inv })
    c.from.ensures c.shift.ensures.value c.shift.ensures.fits

pub returns : goal.returns
unfolding crossing
returns c =
    let a_x : SFits w32 c.args.a.now.0 = search rules in
    let column = narrowed c.args.a.now c.args.b.now c.args.z c.shift.result c.from.result a_x c.ranges.z (record { sfits = c.shift.type_inv })
    c.from.ensures c.shift.ensures.value c.shift.ensures.fits in
    let row = to_z-of_z w32 c.args.z c.ranges.z in
    λ i. columns_of (row i) (column i) (column i)
