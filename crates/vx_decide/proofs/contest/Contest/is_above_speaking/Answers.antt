use Rattle.std.proofs.Common.{◌&&◌, sym, ◌∙◌}
use Rattle.vx_base.proofs.Lists.{any_here, any_next}
use Rattle.vx_region.specs.Ancestry.{is_above}
use Rattle.vx_region.specs.Regions.{Entry}
use Rattle.vx_decide.specs.Cases.{case_of}
use Rattle.vx_decide.specs.Query.{speaks}
use Rattle.vx_decide.proofs.Childless.{childless_above_none}
use Rattle.vx_decide.proofs.Sufficing.{speaking_of_all}
use Rattle.vx_decide.proofs.contest.Contest.is_above_speaking.Goals as goal

pub returns-then-not-has_child : goal.returns-then-not-has_child
returns-then-not-has_child c =
    sym (childless_above_none (speaks c.args.self.now.question (case_of c.args.self.now.inquiry.now)) c.args.self.now.inquiry.now.asker.now.regions.now c.args.number.0
    (sym c.has_child.ensures ∙ c.if-not-has_child.true))

pub speaks_below-requires : goal.speaks_below-requires
speaks_below-requires c = c.args.self.now.inquiry.now.known c.loop-i.i _ c.nth.ensures

pub loop-i-init : goal.loop-i-init
loop-i-init c = speaking_of_all c.args.self.now.question (case_of c.args.self.now.inquiry.now) c.args.self.now.inquiry.now.candidates c.args.self.now.inquiry.now.whole c.args.number.0

pub returns-then-speaks_below : goal.returns-then-speaks_below
returns-then-speaks_below c =
    let below = λ (d : Entry). is_above c.args.self.now.inquiry.now.asker.now.regions.now c.args.number.0 d.1 && speaks c.args.self.now.question (case_of c.args.self.now.inquiry.now) d in
    sym (any_here below c.args.self.now.inquiry.now.candidates c.loop-i.i _ c.nth.ensures (sym c.speaks_below.ensures ∙ c.if-speaks_below.true)) ∙ c.loop-i.invariant

pub loop-i-preserved : goal.loop-i-preserved
loop-i-preserved c =
    let below = λ (d : Entry). is_above c.args.self.now.inquiry.now.asker.now.regions.now c.args.number.0 d.1 && speaks c.args.self.now.question (case_of c.args.self.now.inquiry.now) d in
    sym (any_next below c.args.self.now.inquiry.now.candidates c.loop-i.i _ c.nth.ensures (sym c.speaks_below.ensures ∙ c.if-speaks_below.false)) ∙ c.loop-i.invariant
