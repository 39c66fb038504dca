use Rattle.std.proofs.Common.{◌≡◌, ap, ◌∙◌}
use Rattle.vx_decide.specs.Verdict.{verdict}
use Rattle.vx_region.specs.Subjects.{actor_of}
use Rattle.vx_index.proofs.Recalled.{one_more_right, some_right}
use Rattle.vx_index.specs.Verdicts.{AreVerdicts, verdict_on}
use Rattle.vx_index.specs.declared.asked.Asked.{Asked}
use Rattle.vx_index.proofs.cached.Cached.ask.Goals as goal

pub invariant_of-self-2 : goal.invariant_of-self-2
invariant_of-self-2 c =
    let rs = c.self.inside.indexed in
    let asked : Asked = record { name = c.in-Player.name; action = c.args.action; place = c.args.p } in
    let recalled = c.recall.new.self in
    let right : AreVerdicts rs recalled = some_right rs c.self.inside.kept recalled c.self.invariant c.recall.ensures.kept in
    let is : c.decide-verdict.result ≡ verdict_on rs asked =
    c.decide-verdict.ensures ∙ ap (λ s. verdict rs (actor_of s) c.args.action c.args.p) c.in-Player.is in
    one_more_right rs recalled c.keep.new.self asked c.decide-verdict.result right is c.keep.ensures
