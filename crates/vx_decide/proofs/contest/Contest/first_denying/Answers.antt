use Rattle.std.proofs.Common.{sym, ◌∙◌}
use Rattle.vx_decide.specs.Cases.{case_of}
use Rattle.vx_decide.specs.Query.{is_denying}
use Rattle.vx_decide.proofs.Leasts.{least_next, least_here}
use Rattle.vx_decide.proofs.Sufficing.{denying_of_all}
use Rattle.vx_decide.proofs.contest.Contest.first_denying.Goals as goal

pub is_denying-requires : goal.is_denying-requires
is_denying-requires c = c.args.self.now.inquiry.now.known c.loop-i.i _ c.nth.ensures

pub loop-i-init : goal.loop-i-init
loop-i-init c = denying_of_all c.args.self.now.question (case_of c.args.self.now.inquiry.now) c.args.self.now.inquiry.now.candidates c.args.self.now.inquiry.now.whole

pub returns-then-is_denying : goal.returns-then-is_denying
returns-then-is_denying c =
    sym (least_here (is_denying c.args.self.now.question (case_of c.args.self.now.inquiry.now)) c.args.self.now.inquiry.now.candidates c.loop-i.i _
    c.args.self.now.inquiry.now.whole.ascending c.nth.ensures (sym c.is_denying.ensures ∙ c.if-is_denying.true)) ∙ c.loop-i.invariant

pub loop-i-preserved : goal.loop-i-preserved
loop-i-preserved c =
    least_next (is_denying c.args.self.now.question (case_of c.args.self.now.inquiry.now)) c.args.self.now.inquiry.now.candidates c.loop-i.i _
    c.nth.ensures (sym c.is_denying.ensures ∙ c.if-is_denying.false) ∙ c.loop-i.invariant
