use Rattle.std.proofs.Common.{◌≡◌, length, ap, ◌∙◌, arith}
use Rattle.std.proofs.lemmas.Bool.{eqb-true}
use Rattle.vx_record.specs.Kept.{windows_kept}
use Rattle.vx_record.proofs.Keeping.{put_last}
use Rattle.vx_keeper.proofs.Renewing.{none_behind}
use Rattle.vx_keeper.proofs.busy.keep.Goals as goal

pub returns-then-not-is_empty-clause-windows : goal.returns-then-not-is_empty-clause-windows
returns-then-not-is_empty-clause-windows c count =
    ap (windows_kept count) c.push_reserved.ensures.items
    ∙ put_last count c.args.kept.now.items (record { sector = c.args.sector; entries = c.args.entries }) c.requires.order.1

pub returns-else-not-is_empty-clause-windows : goal.returns-else-not-is_empty-clause-windows
returns-else-not-is_empty-clause-windows c count =
    let none : length c.args.entries.items ≡ 0 = grind (arith, eqb-true) in
    none_behind count c.args.sector c.args.kept.now.items c.args.entries c.requires.order none
