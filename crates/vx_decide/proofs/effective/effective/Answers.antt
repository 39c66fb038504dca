use Rattle.std.proofs.Common.{ap, ◌+◌, ◌∙◌}
use Rattle.vx_region.specs.Association.{association}
use Rattle.vx_region.specs.Subjects.{actor_of}
use Rattle.vx_decide.specs.Effective.{value_at, first_of, effective}
use Rattle.vx_decide.proofs.Nearest.{whole_way}
use Rattle.vx_decide.proofs.effective.effective.Goals as goal

pub returns : goal.returns
unfolding effective
returns c =
    let rs = c.args.asker.now.regions.now in
    c.nearest.ensures
    ∙ whole_way (first_of (value_at rs c.args.flag (association rs (actor_of c.args.asker.now.subject.now) c.args.number.0))) rs _ c.args.number.0
    (ap (λ k. k + 1) (c.from.ensures ∙ c.last.ensures))
