use Rattle.std.proofs.Common.{sym, ◌∙◌}
use Rattle.vx_decide.specs.Cases.{case_of}
use Rattle.vx_decide.specs.Build.{is_home}
use Rattle.vx_decide.proofs.Leasts.{least_next, least_here}
use Rattle.vx_decide.proofs.Sufficing.{home_of_all}
use Rattle.vx_decide.proofs.building.Building.first_home.Goals as goal

pub is_home-requires : goal.is_home-requires
is_home-requires c = c.args.self.now.contest.inquiry.now.known c.loop-i.i _ c.nth.ensures

pub loop-i-init : goal.loop-i-init
loop-i-init c = home_of_all (case_of c.args.self.now.contest.inquiry.now) c.args.self.now.contest.inquiry.now.candidates c.args.self.now.contest.inquiry.now.whole

pub returns-then-is_home : goal.returns-then-is_home
returns-then-is_home c =
    sym (least_here (is_home (case_of c.args.self.now.contest.inquiry.now)) c.args.self.now.contest.inquiry.now.candidates c.loop-i.i _
    c.args.self.now.contest.inquiry.now.whole.ascending c.nth.ensures (sym c.is_home.ensures ∙ c.if-is_home.true)) ∙ c.loop-i.invariant

pub loop-i-preserved : goal.loop-i-preserved
loop-i-preserved c =
    least_next (is_home (case_of c.args.self.now.contest.inquiry.now)) c.args.self.now.contest.inquiry.now.candidates c.loop-i.i _
    c.nth.ensures (sym c.is_home.ensures ∙ c.if-is_home.false) ∙ c.loop-i.invariant
