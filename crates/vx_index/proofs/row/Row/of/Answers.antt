use Rattle.std.proofs.Common.{◌≡◌, [], ◌∷◌, ◌++◌, rules, sym, subst}
use Rattle.vx_index.specs.Tiles.{IsTile}
use Rattle.vx_index.specs.Plots.{LiesAlong}
use Rattle.vx_index.proofs.Along.{along_square}
use Rattle.vx_index.proofs.Told.{push_holds}
use Rattle.vx_index.proofs.row.Row.of.Goals as goal

pub loop-column-preserved : goal.loop-column-preserved
loop-column-preserved c =
    let plots = c.loop-column.plots.items in
    let plot = c.in_ok-new.field-0 in
    let tile = c.in_ok-tile.tile in
    let columns = c.square-columns.result in
    let same : plot ≡ tile = c.in_ok-new.ensures in
    let pushed : c.push.new.self.items ≡ plots ++ plot ∷ [] = search rules in (
      push_holds (IsTile c.args.regions.now) plots c.push.new.self.items plot pushed c.loop-column.invariant.0
          (subst (IsTile c.args.regions.now) (sym same) c.in_ok-tile.ensures.of),
      push_holds (LiesAlong columns) plots c.push.new.self.items plot pushed c.loop-column.invariant.1
          (subst (LiesAlong columns) (sym same) (along_square columns tile _ _ c.args.north c.square-columns.ensures c.in_ok-tile.ensures.columns)),
    )
