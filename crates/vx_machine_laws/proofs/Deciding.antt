-- Tests of sides and directions, and where a neighbor lies.
use Rattle.std.proofs.Common.{◌≡◌, ℕ, ℤ, pos, Bool, true, not, inl, inr, nat_eq, nat_lt, ◌<◌, if◌then◌else◌, refl, sym, ap, ◌∙◌, arith}
use Rattle.std.specs.Prelude.{◌+ℤ◌}
use Rattle.std.specs.List.{list_any}
use Rattle.std.proofs.lemmas.Bool.{cases_Bool, false≢true}
use Rattle.std.proofs.lemmas.Int.{ints}
use Rattle.vx_geom.specs.declared.dir.Dir.{Dir}
use Rattle.vx_geom.specs.declared.dir.Dir.TheVariants.{East, West, Up, Down, South, North}
use Rattle.vx_geom.specs.declared.pos.Pos.{Pos}
use Rattle.vx_geom.specs.Dirs.{all_dirs, opposite, same_dir}
use Rattle.vx_geom.specs.Neighbor.{neighbor}
use Rattle.vx_geom.proofs.Positions.{there_and_back}
use Rattle.vx_power.proofs.Local.{one_of_six}
use Rattle.vx_power.proofs.Reach.{any_at, any_from}

-- a direction is itself
pub same_self : (d : Dir) → same_dir d d ≡ true
same_self East = refl
same_self West = refl
same_self Up = refl
same_self Down = refl
same_self South = refl
same_self North = refl

-- and no other
pub same_at : (a b : Dir) → same_dir a b ≡ true → a ≡ b
same_at East East is = refl
same_at West West is = refl
same_at Up Up is = refl
same_at Down Down is = refl
same_at South South is = refl
same_at North North is = refl
same_at a b is = absurd (false≢true is)

pub same_from : (a b : Dir) → a ≡ b → same_dir a b ≡ true
same_from a b is = ap (λ d. same_dir d b) is ∙ same_self b

pub other_at : (a b : Dir) → not (same_dir a b) ≡ true → a ≡ b → ⊥
other_at a b is same = false≢true (sym (ap not (same_from a b same)) ∙ is)

pub other_from : (a b : Dir) → (a ≡ b → ⊥) → not (same_dir a b) ≡ true
other_from a b away = elim (cases_Bool (same_dir a b)) [
  | inl same ↦ absurd (away (same_at a b same))
  | inr other ↦ ap not other
]

-- back and back again is where it began
pub back_twice : (d : Dir) → opposite (opposite d) ≡ d
back_twice East = refl
back_twice West = refl
back_twice Up = refl
back_twice Down = refl
back_twice South = refl
back_twice North = refl

-- some direction passes the test
pub some_at : (test : Dir → Bool) → list_any test all_dirs ≡ true → (d : Dir) × (test d ≡ true)
some_at test is = let at = any_at test all_dirs is in (at.0, at.2)

pub some_from : (test : Dir → Bool) (d : Dir) → test d ≡ true → list_any test all_dirs ≡ true
some_from test d is = any_from test all_dirs d (one_of_six d) is

-- where p lies in that direction from q, q lies in the opposite one from p
pub way_back : (p q : Pos) (d : Dir) → neighbor q d ≡ p → neighbor p (opposite d) ≡ q
way_back p q d at = ap (λ r. neighbor r (opposite d)) (sym at) ∙ there_and_back q d

-- a number of each direction, and how far a step leads by these
of_dir : Dir → ℕ
of_dir East = 5
of_dir West = 3
of_dir Up = 6
of_dir Down = 2
of_dir South = 7
of_dir North = 1

dir_of : ℕ → Dir
dir_of n =
    if nat_eq n 5 then East else if nat_eq n 3 then West else if nat_eq n 6 then Up
    else if nat_eq n 2 then Down else if nat_eq n 7 then South else North

read_back : (d : Dir) → dir_of (of_dir d) ≡ d
unfolding of_dir dir_of
read_back East = refl
read_back West = refl
read_back Up = refl
read_back Down = refl
read_back South = refl
read_back North = refl

abbrev far_along : Pos → ℤ
far_along p = p.x +ℤ (p.y +ℤ p.y) +ℤ (p.z +ℤ p.z +ℤ p.z)

one_step : (p : Pos) (d : Dir) → far_along (neighbor p d) +ℤ pos 4 ≡ far_along p +ℤ pos (of_dir d)
unfolding of_dir
one_step p East = omega (arith, ints)
one_step p West = omega (arith, ints)
one_step p Up = omega (arith, ints)
one_step p Down = omega (arith, ints)
one_step p South = omega (arith, ints)
one_step p North = omega (arith, ints)

one_number : (a b : ℕ) (x y : ℤ) → x +ℤ pos 4 ≡ y +ℤ pos a → x +ℤ pos 4 ≡ y +ℤ pos b → a ≡ b
one_number a b x y first second = omega (arith, ints, first, second)

-- two directions that lead to one position are one
pub one_way : (p : Pos) (d e : Dir) → neighbor p d ≡ neighbor p e → d ≡ e
one_way p d e same =
    let second : far_along (neighbor p d) +ℤ pos 4 ≡ far_along p +ℤ pos (of_dir e) =
    ap (λ q. far_along q +ℤ pos 4) same ∙ one_step p e in
    sym (read_back d)
    ∙ ap dir_of (one_number (of_dir d) (of_dir e) (far_along (neighbor p d)) (far_along p) (one_step p d) second)
    ∙ read_back e

-- what leads back to p is the opposite
pub leads_back : (p : Pos) (d e : Dir) → neighbor (neighbor p d) e ≡ p → e ≡ opposite d
leads_back p d e at = one_way (neighbor p d) e (opposite d) (at ∙ sym (there_and_back p d))

-- over 0
pub over_at : (n : ℕ) → nat_lt 0 n ≡ true → 0 < n
over_at n is = grind arith

pub over_from : (n : ℕ) → 0 < n → nat_lt 0 n ≡ true
over_from n is = grind arith
