use Rattle.std.proofs.Common.{◌≡◌, suc, ◌-◌, ◌<◌, length, get_or, slice_get, Some, sym, ap, ◌∙◌, subst, arith}
use Rattle.std.proofs.lemmas.Option.{slice_get-get_or}
use Rattle.vx_tick.specs.Ticks.{pushed}
use Rattle.vx_tick.proofs.PutDown.{pushed_on}
use Rattle.vx_tick.proofs.effects.pushed_cell.Goals as goal

pub returns-in_default : goal.returns-in_default
returns-in_default g c =
    let w = g.S.Standing.stands c.args.map.now in
    let i = c.args.i in
    let ps = c.args.places.now in
    let later : i ≡ suc (suc (i - 2)) = omega (arith, c.in_default) in
    let before : i - 1 ≡ suc (i - 2) = omega (arith, later) in
    let within : i - 1 < length ps = omega (arith, c.requires) in
    let p = get_or ps (i - 1) _ in
    let there : slice_get ps (i - 1) ≡ Some p = slice_get-get_or ps (i - 1) _ within in
    subst (λ k. slice_get (pushed w c.args.at ps) k ≡ Some c.at-in_default.result) (sym later)
    (pushed_on w c.args.at ps (i - 2) p (subst (λ k. slice_get ps k ≡ Some p) before there)
    ∙ ap Some (sym c.at-in_default.ensures))
