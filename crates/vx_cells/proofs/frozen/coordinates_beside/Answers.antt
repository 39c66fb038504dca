use Rattle.std.proofs.Common.{◌≡◌, ℤ, pos, ◌+ℤ◌, ◌-ℤ◌, rules, arith, refl, ap, sym, ◌∙◌, SFits, w32, w64}
use Rattle.std.proofs.lemmas.Int.{ints}
use mir.Val.{to_z, of_z}
use Rattle.vx_geom.specs.Neighbor.{neighbor}
use Rattle.vx_geom.specs.declared.pos.Pos.{Pos}
use Rattle.vx_geom.specs.declared.dir.Dir.{Dir}
use Rattle.vx_cells.proofs.frozen.coordinates_beside.Goals as goal

-- a coordinate that was widened, and one more and one less than it
kept : (r z : ℤ) → SFits w32 z → r ≡ to_z w32 (of_z w32 z) → to_z w64 (of_z w64 r) ≡ z
kept r z fits is = omega (arith, ints)

one_more : (r z : ℤ) → SFits w32 z → r ≡ to_z w32 (of_z w32 z) → to_z w64 (of_z w64 (to_z w64 (of_z w64 r) +ℤ pos 1)) ≡ z +ℤ pos 1
one_more r z fits is = omega (arith, ints)

one_less : (r z : ℤ) → SFits w32 z → r ≡ to_z w32 (of_z w32 z) → to_z w64 (of_z w64 (to_z w64 (of_z w64 r) -ℤ pos 1)) ≡ z -ℤ pos 1
one_less r z fits is = omega (arith, ints)

next_is : (p : Pos) (d e : Dir) (x y z u v w : ℤ) → d ≡ e → x ≡ u → y ≡ v → z ≡ w → neighbor p e ≡ record { y = v; z = w; x = u }
    → record { y = y; z = z; x = x } ≡ neighbor p d
next_is p d e x y z u v w same in_x in_y in_z next =
    (λ i. record { y = in_y i; z = in_z i; x = in_x i }) ∙ sym next ∙ ap (neighbor p) (sym same)

pub returns-in-East-clause-value : goal.returns-in-East-clause-value
returns-in-East-clause-value c =
    let p = c.args.p in
    next_is p _ _ _ _ _ _ _ _ c.in-East.is
    (one_more c.from-x.result p.x (search rules) c.from-x.ensures)
    (kept c.from-y.result p.y (search rules) c.from-y.ensures)
    (kept c.from-z.result p.z (search rules) c.from-z.ensures)
    refl

pub returns-in-West-clause-value : goal.returns-in-West-clause-value
returns-in-West-clause-value c =
    let p = c.args.p in
    next_is p _ _ _ _ _ _ _ _ c.in-West.is
    (one_less c.from-x.result p.x (search rules) c.from-x.ensures)
    (kept c.from-y.result p.y (search rules) c.from-y.ensures)
    (kept c.from-z.result p.z (search rules) c.from-z.ensures)
    refl

pub returns-in-Up-clause-value : goal.returns-in-Up-clause-value
returns-in-Up-clause-value c =
    let p = c.args.p in
    next_is p _ _ _ _ _ _ _ _ c.in-Up.is
    (kept c.from-x.result p.x (search rules) c.from-x.ensures)
    (one_more c.from-y.result p.y (search rules) c.from-y.ensures)
    (kept c.from-z.result p.z (search rules) c.from-z.ensures)
    refl

pub returns-in-Down-clause-value : goal.returns-in-Down-clause-value
returns-in-Down-clause-value c =
    let p = c.args.p in
    next_is p _ _ _ _ _ _ _ _ c.in-Down.is
    (kept c.from-x.result p.x (search rules) c.from-x.ensures)
    (one_less c.from-y.result p.y (search rules) c.from-y.ensures)
    (kept c.from-z.result p.z (search rules) c.from-z.ensures)
    refl

pub returns-in-South-clause-value : goal.returns-in-South-clause-value
returns-in-South-clause-value c =
    let p = c.args.p in
    next_is p _ _ _ _ _ _ _ _ c.in-South.is
    (kept c.from-x.result p.x (search rules) c.from-x.ensures)
    (kept c.from-y.result p.y (search rules) c.from-y.ensures)
    (one_more c.from-z.result p.z (search rules) c.from-z.ensures)
    refl

pub returns-in-North-clause-value : goal.returns-in-North-clause-value
returns-in-North-clause-value c =
    let p = c.args.p in
    next_is p _ _ _ _ _ _ _ _ c.in-North.is
    (kept c.from-x.result p.x (search rules) c.from-x.ensures)
    (kept c.from-y.result p.y (search rules) c.from-y.ensures)
    (one_less c.from-z.result p.z (search rules) c.from-z.ensures)
    refl
