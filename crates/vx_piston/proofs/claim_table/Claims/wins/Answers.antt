use Rattle.std.proofs.Common.{◌∙◌, subst}
use Rattle.std.proofs.lemmas.List.{take_all}
use Rattle.vx_piston.proofs.Firsts.{IsFirst}
use Rattle.vx_piston.proofs.Rivals.{Rivals, rivals_more, beaten_by_first}
use Rattle.vx_piston.proofs.claim_table.Claims.wins.Goals as goal

pub loop-p-preserved : goal.loop-p-preserved
loop-p-preserved c = λ claims table.
    rivals_more claims c.args.self.now c.m.inside.at c.as_slice-p-items.result.now c.loop-p.p-index _
    c.loop-p.first c.before-in-loop-p.result c.first_found-first.result c.loop-p-test.true table
    (c.loop-p.invariant claims table) c.before-in-loop-p.ensures c.first_found-first.ensures

pub returns : goal.returns
returns c = rw (← c.m.view_is) (λ claims table.
    let all = take_all c.loop-p.p-index _ c.loop-p-test.false ∙ c.as_slice-p-items.ensures.value in
    let known = c.loop-p.invariant claims table in
    beaten_by_first claims _ c.loop-p.first
    (subst (λ ps. IsFirst (Rivals claims c.m.inside.at ps) c.loop-p.first) all known))
