use Rattle.std.proofs.Common.{◌+◌, drop, ap, ◌∙◌}
use Rattle.vx_decide.specs.Cases.{case_of}
use Rattle.vx_decide.specs.Query.{counts}
use Rattle.vx_decide.specs.Tops.{top_from}
use Rattle.vx_decide.proofs.Highest.{top_step}
use Rattle.vx_decide.proofs.Sufficing.{top_of_all}
use Rattle.vx_decide.proofs.inquiry.Inquiry.top.Goals as goal

pub best_with-best-requires : goal.best_with-best-requires
best_with-best-requires c = c.args.self.now.known c.loop-i.i _ c.nth.ensures

pub loop-i-init : goal.loop-i-init
loop-i-init c = top_of_all c.args.question (case_of c.args.self.now) c.args.self.now.candidates c.args.self.now.whole

pub loop-i-preserved : goal.loop-i-preserved
loop-i-preserved c =
    let members = counts c.args.question (case_of c.args.self.now) in
    let candidates = c.args.self.now.candidates in
    ap (λ best. top_from members best (drop (c.loop-i.i + 1) candidates)) c.best_with-best.ensures
    ∙ top_step members c.loop-i.best candidates c.loop-i.i _ c.nth.ensures
    ∙ c.loop-i.invariant
