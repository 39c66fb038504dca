-- How many steps lead from one position to another.
use Rattle.std.proofs.Common.{◌≡◌, ◌≢◌, true, false, nat_eq, ap, sym, ◌∙◌, arith}
use Rattle.std.proofs.lemmas.Bool.{eqb-true, eq-eqb, ne_eqb}
use Rattle.std.proofs.lemmas.Int.{ints}
use Rattle.vx_geom.specs.declared.dir.Dir.TheVariants.{East, West, Up, Down, South, North}
use Rattle.vx_geom.specs.declared.pos.Pos.{Pos}
use Rattle.vx_geom.proofs.Positions.{same_pos}
use Rattle.vx_places.specs.Laws.{OneStepIsOneMore}
use Rattle.vx_places.specs.Places.{steps_between}

-- where none lead they are one
pub one_place : (p q : Pos) → steps_between p q ≡ 0 → p ≡ q
one_place p q none = same_pos p q (omega (arith, ints)) (omega (arith, ints)) (omega (arith, ints))

none_to_itself : (p : Pos) → steps_between p p ≡ 0
none_to_itself p = omega (arith, ints)

pub no_steps : (p q : Pos) → p ≡ q → steps_between p q ≡ 0
no_steps p q same = ap (λ r. steps_between p r) (sym same) ∙ none_to_itself p

-- one step more
pub one_step_is_one_more : OneStepIsOneMore
one_step_is_one_more p q East n near = omega (arith, ints)
one_step_is_one_more p q West n near = omega (arith, ints)
one_step_is_one_more p q Up n near = omega (arith, ints)
one_step_is_one_more p q Down n near = omega (arith, ints)
one_step_is_one_more p q South n near = omega (arith, ints)
one_step_is_one_more p q North n near = omega (arith, ints)

-- the test whether they are one
pub is_place : (p q : Pos) → p ≡ q → nat_eq (steps_between p q) 0 ≡ true
is_place p q same = eq-eqb (steps_between p q) 0 (no_steps p q same)

pub not_place : (p q : Pos) → p ≢ q → nat_eq (steps_between p q) 0 ≡ false
not_place p q apart = ne_eqb (steps_between p q) 0 (λ none. apart (one_place p q none))

pub place_is : (p q : Pos) → nat_eq (steps_between p q) 0 ≡ true → p ≡ q
place_is p q is = one_place p q (eqb-true (steps_between p q) 0 is)
