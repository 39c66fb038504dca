use Rattle.std.proofs.Common.{◌≡◌, suc, ◌+◌, ◌-◌, ◌≤◌, length, slice_get, Some, refl, sym, ap, ◌∙◌, subst, arith}
use Rattle.std.proofs.lemmas.Bool.{ltb-true}
use Rattle.std.proofs.lemmas.Option.{slice_get_read}
use Rattle.vx_block.specs.declared.cell.Cell.TheVariants.{Air}
use Rattle.vx_tick.specs.Ticks.{drawn}
use Rattle.vx_tick.proofs.PutDown.{drawn_on, drawn_end}
use Rattle.vx_tick.proofs.effects.drawn_cell.Goals as goal

pub returns-in-Some : goal.returns-in-Some
returns-in-Some g c =
    let w = g.S.Standing.stands c.args.map.now in
    let i = c.args.i in
    let ps = c.args.places.now in
    let p = c.in-Some.pulled.now in
    let next : i ≡ suc (i - 1) = omega (arith, c.if-i-eq0.false) in
    let further : i + 1 ≡ suc (suc (i - 1)) = omega (arith, next) in
    let lookup = c.in-Some.ensures.lookup in
    let there : slice_get ps (i + 1) ≡ Some p =
    slice_get_read ps (length ps) (i + 1) p refl (ltb-true (i + 1) (length ps) (sym lookup.0)) lookup.1 in
    subst (λ k. slice_get (drawn w c.args.at ps) k ≡ Some c.at-in-Some.result) (sym next)
    (drawn_on w c.args.at ps (i - 1) p (subst (λ k. slice_get ps k ≡ Some p) further there)
    ∙ ap Some (sym c.at-in-Some.ensures))

pub returns-in-None : goal.returns-in-None
returns-in-None g c =
    let w = g.S.Standing.stands c.args.map.now in
    let i = c.args.i in
    let ps = c.args.places.now in
    let next : i ≡ suc (i - 1) = omega (arith, c.if-i-eq0.false) in
    let past : length ps ≤ i + 1 = c.in-None.ensures.lookup.3 in
    let last : suc (suc (i - 1)) ≡ length ps = omega (arith, past, c.requires, next) in
    subst (λ k. slice_get (drawn w c.args.at ps) k ≡ Some Air) (sym next)
    (drawn_end w c.args.at ps (i - 1) last)
