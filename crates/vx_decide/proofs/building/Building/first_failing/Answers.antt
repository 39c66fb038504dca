use Rattle.std.proofs.Common.{sym, ◌∙◌}
use Rattle.vx_decide.specs.Cases.{case_of}
use Rattle.vx_decide.specs.Build.{is_failing}
use Rattle.vx_decide.proofs.Leasts.{least_next, least_here}
use Rattle.vx_decide.proofs.Sufficing.{failing_of_all}
use Rattle.vx_decide.proofs.building.Building.first_failing.Goals as goal

pub is_failing-requires : goal.is_failing-requires
is_failing-requires c = c.args.self.now.contest.inquiry.now.known c.loop-i.i _ c.nth.ensures

pub loop-i-init : goal.loop-i-init
loop-i-init c = failing_of_all (case_of c.args.self.now.contest.inquiry.now) c.args.self.now.contest.inquiry.now.candidates c.args.self.now.contest.inquiry.now.whole

pub returns-then-is_failing : goal.returns-then-is_failing
returns-then-is_failing c =
    sym (least_here (is_failing (case_of c.args.self.now.contest.inquiry.now)) c.args.self.now.contest.inquiry.now.candidates c.loop-i.i _
    c.args.self.now.contest.inquiry.now.whole.ascending c.nth.ensures (sym c.is_failing.ensures ∙ c.if-is_failing.true)) ∙ c.loop-i.invariant

pub loop-i-preserved : goal.loop-i-preserved
loop-i-preserved c =
    least_next (is_failing (case_of c.args.self.now.contest.inquiry.now)) c.args.self.now.contest.inquiry.now.candidates c.loop-i.i _
    c.nth.ensures (sym c.is_failing.ensures ∙ c.if-is_failing.false) ∙ c.loop-i.invariant
