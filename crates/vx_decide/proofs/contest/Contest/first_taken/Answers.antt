use Rattle.std.proofs.Common.{sym, ◌∙◌}
use Rattle.vx_decide.specs.Cases.{case_of}
use Rattle.vx_decide.specs.Query.{is_taken}
use Rattle.vx_decide.proofs.Leasts.{least_next, least_here}
use Rattle.vx_decide.proofs.Sufficing.{taken_of_all}
use Rattle.vx_decide.proofs.contest.Contest.first_taken.Goals as goal

pub is_taken-requires : goal.is_taken-requires
is_taken-requires c = c.args.self.now.inquiry.now.known c.loop-i.i _ c.nth.ensures

pub loop-i-init : goal.loop-i-init
loop-i-init c = taken_of_all c.args.self.now.question (case_of c.args.self.now.inquiry.now) c.args.self.now.inquiry.now.candidates c.args.self.now.inquiry.now.whole

pub returns-then-is_taken : goal.returns-then-is_taken
returns-then-is_taken c =
    sym (least_here (is_taken c.args.self.now.question (case_of c.args.self.now.inquiry.now)) c.args.self.now.inquiry.now.candidates c.loop-i.i _
    c.args.self.now.inquiry.now.whole.ascending c.nth.ensures (sym c.is_taken.ensures ∙ c.if-is_taken.true)) ∙ c.loop-i.invariant

pub loop-i-preserved : goal.loop-i-preserved
loop-i-preserved c =
    least_next (is_taken c.args.self.now.question (case_of c.args.self.now.inquiry.now)) c.args.self.now.inquiry.now.candidates c.loop-i.i _
    c.nth.ensures (sym c.is_taken.ensures ∙ c.if-is_taken.false) ∙ c.loop-i.invariant
