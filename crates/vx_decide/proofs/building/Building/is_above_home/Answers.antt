use Rattle.std.proofs.Common.{◌&&◌, sym, ◌∙◌}
use Rattle.vx_base.proofs.Lists.{any_here, any_next}
use Rattle.vx_region.specs.Ancestry.{is_above}
use Rattle.vx_region.specs.Regions.{Entry}
use Rattle.vx_decide.specs.Cases.{case_of}
use Rattle.vx_decide.specs.Build.{is_home}
use Rattle.vx_decide.proofs.Childless.{childless_above_none}
use Rattle.vx_decide.proofs.Sufficing.{homes_of_all}
use Rattle.vx_decide.proofs.building.Building.is_above_home.Goals as goal

pub returns-then-not-has_child : goal.returns-then-not-has_child
returns-then-not-has_child c =
    sym (childless_above_none (is_home (case_of c.args.self.now.contest.inquiry.now)) c.args.self.now.contest.inquiry.now.asker.now.regions.now c.args.number.0
    (sym c.has_child.ensures ∙ c.if-not-has_child.true))

pub is_home_below-requires : goal.is_home_below-requires
is_home_below-requires c = c.args.self.now.contest.inquiry.now.known c.loop-i.i _ c.nth.ensures

pub loop-i-init : goal.loop-i-init
loop-i-init c = homes_of_all (case_of c.args.self.now.contest.inquiry.now) c.args.self.now.contest.inquiry.now.candidates c.args.self.now.contest.inquiry.now.whole c.args.number.0

pub returns-then-is_home_below : goal.returns-then-is_home_below
returns-then-is_home_below c =
    let below = λ (d : Entry). is_above c.args.self.now.contest.inquiry.now.asker.now.regions.now c.args.number.0 d.1 && is_home (case_of c.args.self.now.contest.inquiry.now) d in
    sym (any_here below c.args.self.now.contest.inquiry.now.candidates c.loop-i.i _ c.nth.ensures (sym c.is_home_below.ensures ∙ c.if-is_home_below.true)) ∙ c.loop-i.invariant

pub loop-i-preserved : goal.loop-i-preserved
loop-i-preserved c =
    let below = λ (d : Entry). is_above c.args.self.now.contest.inquiry.now.asker.now.regions.now c.args.number.0 d.1 && is_home (case_of c.args.self.now.contest.inquiry.now) d in
    sym (any_next below c.args.self.now.contest.inquiry.now.candidates c.loop-i.i _ c.nth.ensures (sym c.is_home_below.ensures ∙ c.if-is_home_below.false)) ∙ c.loop-i.invariant
