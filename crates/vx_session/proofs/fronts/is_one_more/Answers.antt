use Rattle.std.proofs.Common.{◌≡◌, ◌+◌, ◌<◌, ◌-◌, length, ap, ◌∙◌, subst, arith}
use Rattle.std.proofs.lemmas.Bool.{eqb-true}
use mathlib.Core.List.{IsPrefix}
use Rattle.vx_session.proofs.LastEdits.{all_but_last}
use Rattle.vx_session.proofs.fronts.is_one_more.Goals as goal

pub returns : goal.returns
returns g c one before edit is =
    let shorter = c.args.shorter.now in
    let longer = c.args.longer.now in
    let one_more : c.len-3.result - c.len-4.result ≡ 1 = eqb-true (c.len-3.result - c.len-4.result) 1 one in
    let below : length shorter < length longer = omega (arith, c.if-len.false, c.len.ensures, c.len-2.ensures) in
    let more : length shorter + 1 ≡ length longer = omega (arith, one_more, below, c.len-3.ensures, c.len-4.ensures) in
    let begins : IsPrefix shorter longer = subst (IsPrefix shorter) (c.longer-both.ensures.least below) c.longer-both.ensures.that in
    all_but_last shorter before edit (subst (IsPrefix shorter) is begins) (more ∙ ap length is)
