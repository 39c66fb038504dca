use Rattle.std.proofs.Common.{◌++◌, length, sym, ap, ◌∙◌, subst}
use Rattle.vx_cells.specs.Maps.{cell_on}
use Rattle.vx_power.specs.Levels.{has}
use Rattle.vx_tick.specs.Fates.{AreFates}
use Rattle.vx_tick.specs.Leaving.{shown_changes, hidden_changes, places_of}
use Rattle.vx_tick.proofs.Plans.{all_puts, no_chests}
use Rattle.vx_tick.proofs.Remaining.{leaves_still, stays_dust}
use Rattle.vx_tick.proofs.Resting.{all_restless}
use Rattle.vx_tick.proofs.Told.{fates_length}
use Rattle.vx_tick.proofs.finishing.finished.Goals as goal

pub worked-requires-clause-each : goal.worked-requires-clause-each
worked-requires-clause-each g c =
    fates_length c.args.version.now.policy c.args.found.moves.items c.args.found.moves.items c.args.fates.items c.requires.fates
    ∙ ap length (sym c.as_slice.ensures.value)

pub left-requires : goal.left-requires
left-requires g c =
    let m = c.args.map.now in
    let changes = c.deref.ensures.value in
    let told = c.requires.fates in
    let worked = c.in_ok-done.ensures c.args.version.now.policy
    (subst (λ ms. AreFates c.args.version.now.policy ms ms c.args.fates.items) (sym c.as_slice.ensures.value) told) in
    stays_dust m c.filling.ensures _ (changes ∙ worked.parts)

pub returns : goal.returns
returns g c =
    let rs = c.args.version.now.policy in
    let told = c.requires.fates in
    let m = c.args.map.now in
    let w = cell_on m in
    let done = c.in_ok-done.done in
    let next = c.in_ok-waking.waking in
    let plan = c.in_ok-planned.field-0 in
    let joined = c.in_ok-planned.ensures.puts in
    let changes = c.deref.ensures.value in
    let moved = c.deref-2.ensures.value in
    let worked = c.in_ok-done.ensures rs
    (subst (λ ms. AreFates rs ms ms c.args.fates.items) (sym c.as_slice.ensures.value) told) in
    record {
      puts = all_puts rs m done.changes.items done.moved.items plan.puts.items done.fates.items worked joined;
      fates = c.in_ok-planned.ensures.fates ∙ worked.told;
      chests = no_chests rs m done.changes.items done.moved.items plan.puts.items done.fates.items worked joined;
      left =
          leaves_still rs m done.changes.items done.moved.items done.fates.items
          c.filling.ensures worked next c.as_slice-2.result.now
          (c.in_ok-waking.ensures.rebuilt ∙ (λ i. places_of (moved i)))
          (c.in_ok-waking.ensures.turned ∙ (λ i. shown_changes w (changes i)))
          (c.in_ok-waking.ensures.besides ∙ (λ i. hidden_changes w (changes i) ++ c.as_slice-2.result.now))
          (λ p is. ap (λ ps. has ps p) (c.as_slice-2.ensures.value ∙ c.requires.restless)
          ∙ all_restless m c.soundness.ensures.valid p is);
    }
