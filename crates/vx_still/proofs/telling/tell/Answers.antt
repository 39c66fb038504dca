use Rattle.std.proofs.Common.{sym, ap, ◌∙◌}
use Rattle.vx_power.specs.Local.{sees}
use Rattle.vx_power.specs.Levels.{stored_level}
use Rattle.vx_still.proofs.Marking.{none_to_mark, noted}
use Rattle.vx_still.proofs.Mirroring.{none_of_none}
use Rattle.vx_still.proofs.Told.{dust_there, own_marked, told_alone, told_with_heeders}
use Rattle.vx_still.proofs.telling.tell.Goals as goal

pub returns-then-have_same_power-clause-told : goal.returns-then-have_same_power-clause-told
returns-then-have_same_power-clause-told c =
    told_alone c.args.map.now c.args.dust.now.levels c.args.p c.at-level.result c.stored_level-stored.result c.requires.dust.right
    c.at-level.ensures.value (c.stored_level-stored.ensures.value ∙ ap stored_level c.cell.ensures) c.if-level-stored.false
    c.args.places.now c.mark.new.self c.requires.sizes c.in_ok-mark.ensures.marked
    (c.have_same_power.ensures c.if-have_same_power.true)

pub mark_heeders-requires-clause-own : goal.mark_heeders-requires-clause-own
mark_heeders-requires-clause-own c =
    own_marked c.args.map.now c.args.dust.now.levels c.args.p c.at-level.result c.stored_level-stored.result c.requires.dust.right
    c.at-level.ensures.value (c.stored_level-stored.ensures.value ∙ ap stored_level c.cell.ensures) c.if-level-stored.false
    c.args.places.now c.mark.new.self c.requires.sizes c.in_ok-mark.ensures.marked

pub returns-then-has-clause-told : goal.returns-then-has-clause-told
returns-then-has-clause-told c =
    told_with_heeders c.args.map.now c.args.dust.now.levels c.args.p c.at-level.result c.stored_level-stored.result c.requires.dust.right
    c.at-level.ensures.value (c.stored_level-stored.ensures.value ∙ ap stored_level c.cell.ensures) c.if-level-stored.false
    c.args.places.now c.mark.new.self c.requires.sizes c.in_ok-mark.ensures.marked c.mark.new.self (λ q is. is)
    (none_to_mark c.args.map.now c.args.p c.mark.new.self
    (c.requires.dust.unheeded.each c.args.p (sym c.has.ensures ∙ c.if-has.true) (none_of_none (sees c.args.p))))

pub returns-in_ok-mark-2-clause-told : goal.returns-in_ok-mark-2-clause-told
returns-in_ok-mark-2-clause-told c =
    told_with_heeders c.args.map.now c.args.dust.now.levels c.args.p c.at-level.result c.stored_level-stored.result c.requires.dust.right
    c.at-level.ensures.value (c.stored_level-stored.ensures.value ∙ ap stored_level c.cell.ensures) c.if-level-stored.false
    c.args.places.now c.mark.new.self c.requires.sizes c.in_ok-mark.ensures.marked c.mark_heeders.new.places
    c.in_ok-mark_heeders.ensures.kept c.in_ok-mark_heeders.ensures.marked

pub returns-else-not-branch-clause-told : goal.returns-else-not-branch-clause-told
returns-else-not-branch-clause-told c =
    told_with_heeders c.args.map.now c.args.dust.now.levels c.args.p c.at-level.result c.stored_level-stored.result c.requires.dust.right
    c.at-level.ensures.value (c.stored_level-stored.ensures.value ∙ ap stored_level c.cell.ensures) c.if-level-stored.false
    c.args.places.now c.mark.new.self c.requires.sizes c.in_ok-mark.ensures.marked c.mark_heeders.new.places
    c.in_ok-mark_heeders.ensures.kept c.in_ok-mark_heeders.ensures.marked

pub returns-in_ok-mark-2-clause-dust : goal.returns-in_ok-mark-2-clause-dust
returns-in_ok-mark-2-clause-dust c =
    let m = c.args.map.now in
    record {
      right = c.requires.dust.right;
      unheeded = noted m c.args.p c.args.dust.now.unheeded c.mark-then-not-branch.new.self
          (dust_there m c.args.dust.now.levels c.args.p c.at-level.result c.stored_level-stored.result c.requires.dust.right
          c.at-level.ensures.value (c.stored_level-stored.ensures.value ∙ ap stored_level c.cell.ensures) c.if-level-stored.false)
          (c.in_ok-mark_heeders.ensures.none c.if-not-branch.true) c.in_ok-mark-2.ensures.marked c.requires.dust.unheeded;
    }
