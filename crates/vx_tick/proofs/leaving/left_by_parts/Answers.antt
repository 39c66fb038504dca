use Rattle.std.proofs.Common.{◌+◌, drop, sym, ap, subst, ◌∙◌}
use Rattle.std.proofs.lemmas.List.Elements.{All-get_or}
use Rattle.std.proofs.Math.ListN.{drop_of_length-le}
use Rattle.vx_cells.specs.Maps.{cell_on}
use Rattle.vx_tick.specs.Leaving.{shown_changes, hidden_changes, StaysDust}
use Rattle.vx_tick.proofs.Turning.{next_left, carried, ended, shown_first, hidden_first}
use Rattle.vx_tick.proofs.leaving.left_by_parts.Goals as goal

pub look-requires : goal.look-requires
look-requires c =
    let w = cell_on c.args.map.now in
    subst (StaysDust w) (sym c.loop-p-item.is)
    (All-get_or (StaysDust w) c.args.changes.now c.loop-p.p-index _ c.loop-p-test.true c.requires)

pub loop-p-preserved : goal.loop-p-preserved
loop-p-preserved c =
    let w = cell_on c.args.map.now in
    let put = c.loop-p-item.result in
    let rest = drop (c.loop-p.p-index + 1) c.args.changes.now in
    let left = next_left c.args.changes.now c.loop-p.p-index put c.loop-p-test.true c.loop-p-item.is in (
      carried c.loop-p.waking.turned _ _ (shown_changes w rest) _ _ c.in_ok-look.ensures.turned (ap (shown_changes w) left ∙ shown_first w put rest)
          c.loop-p.invariant.0,
      carried c.loop-p.waking.besides _ _ (hidden_changes w rest) _ _ c.in_ok-look.ensures.besides (ap (hidden_changes w) left ∙ hidden_first w put rest)
          c.loop-p.invariant.1,
    )

pub returns-clause-turned : goal.returns-clause-turned
returns-clause-turned c =
    ended c.loop-p.waking.turned _ _ (ap (shown_changes (cell_on c.args.map.now)) (drop_of_length-le c.args.changes.now c.loop-p-test.false))
    c.loop-p.invariant.0

pub returns-clause-besides : goal.returns-clause-besides
returns-clause-besides c =
    ended c.loop-p.waking.besides _ _ (ap (hidden_changes (cell_on c.args.map.now)) (drop_of_length-le c.args.changes.now c.loop-p-test.false))
    c.loop-p.invariant.1
