use Rattle.std.proofs.Common.{sym, ap, ◌∙◌, arith, is_some, option_map}
use Rattle.vx_region.specs.Association.{association}
use Rattle.vx_region.specs.Subjects.{actor_of}
use Rattle.vx_decide.specs.Effective.{value_at}
use Rattle.vx_decide.proofs.Nearest.{first_next}
use Rattle.vx_decide.proofs.effective.nearest.Goals as goal

pub loop-preserved : goal.loop-preserved
loop-preserved c =
    let rs = c.args.asker.now.regions.now in
    let silent = sym (ap is_some c.value_at-value.ensures.value) ∙ sym c.is_some.ensures ∙ c.if-is_some.false in
    sym (first_next (value_at rs c.args.flag (association rs (actor_of c.args.asker.now.subject.now) c.args.number.0)) rs _ _ c.loop.at.0 c.in-Some.parent.0
    (omega arith) silent (sym c.value_at-value.ensures.parent ∙ ap (option_map (λ n. n.0)) c.in-Some.is))
    ∙ c.loop.invariant
