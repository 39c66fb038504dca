use Rattle.std.proofs.Common.{rules}
use Rattle.vx_index.specs.Cuts.{IsRowOf}
use Rattle.vx_index.proofs.Told.{push_holds}
use Rattle.vx_index.proofs.cut.rows_from.Goals as goal

pub loop-z-preserved : goal.loop-z-preserved
loop-z-preserved c =
    let rows = c.loop-z.rows.items in
    push_holds (IsRowOf c.args.shape.now) rows c.push.new.self.items (c.loop-z.z, c.row.result) (search rules) c.loop-z.invariant (search rules)
