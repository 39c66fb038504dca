use Rattle.std.proofs.Common.{sym, ap, ◌∙◌, is_some, option_map}
use Rattle.vx_region.specs.Ancestry.{chain}
use Rattle.vx_region.specs.Association.{association}
use Rattle.vx_region.specs.Subjects.{actor_of}
use Rattle.vx_decide.specs.Effective.{heard, value_at, first_of}
use Rattle.vx_decide.proofs.Nearest.{says_itself, says_above, says_nothing}
use Rattle.vx_decide.proofs.effective.effective_of.Goals as goal

pub returns-then-is_some : goal.returns-then-is_some
returns-then-is_some c =
    let rs = c.args.asker.now.regions.now in
    let s = actor_of c.args.asker.now.subject.now in
    let own = c.heard-own.ensures ∙ ap (heard c.args.number.0 (association rs s c.args.number.0)) c.setting.ensures in
    own
    ∙ sym (says_itself rs s c.args.flag c.args.number.0 c.args.region.now c.soundness.ensures.forest c.requires
    (sym (ap is_some own) ∙ sym c.is_some.ensures ∙ c.if-is_some.true))

pub returns-in-Some : goal.returns-in-Some
returns-in-Some c =
    let rs = c.args.asker.now.regions.now in
    let s = actor_of c.args.asker.now.subject.now in
    let own = c.heard-own.ensures ∙ ap (heard c.args.number.0 (association rs s c.args.number.0)) c.setting.ensures in
    c.nearest.ensures
    ∙ ap (λ k. first_of (value_at rs c.args.flag (association rs s c.args.number.0)) (chain k rs c.in-Some.parent.0)) (c.from.ensures ∙ c.last.ensures)
    ∙ sym (says_above rs s c.args.flag c.args.number.0 c.args.region.now c.soundness.ensures.forest c.requires c.in-Some.parent.0
    (sym (ap is_some own) ∙ sym c.is_some.ensures ∙ c.if-is_some.false)
    (sym c.parent.ensures ∙ ap (option_map (λ n. n.0)) c.in-Some.is))

pub returns-in-None : goal.returns-in-None
returns-in-None c =
    let rs = c.args.asker.now.regions.now in
    let s = actor_of c.args.asker.now.subject.now in
    let own = c.heard-own.ensures ∙ ap (heard c.args.number.0 (association rs s c.args.number.0)) c.setting.ensures in
    sym (says_nothing rs s c.args.flag c.args.number.0 c.args.region.now c.soundness.ensures.forest c.requires
    (sym (ap is_some own) ∙ sym c.is_some.ensures ∙ c.if-is_some.false)
    (sym c.parent.ensures ∙ ap (option_map (λ n. n.0)) c.in-None.is))
