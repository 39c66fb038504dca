use Rattle.std.proofs.Common.{◌≡◌, false}
use Rattle.std.specs.List.{All}
use Rattle.std.proofs.lemmas.Result.{IfOk-weaker}
use Rattle.vx_geom.specs.declared.pos.Pos.{Pos}
use Rattle.vx_block.specs.declared.cell.Cell.{Cell}
use Rattle.vx_store.specs.Codes.{is_chest}
use Rattle.vx_cells.specs.Wholes.{with_cells_on}
use Rattle.vx_tick.specs.Leaving.{IsPlanned}
use Rattle.vx_tick.specs.Ticks.{fates_on, stepped}
use Rattle.vx_still.specs.Watching.{IsWatch}
use Rattle.vx_tick.proofs.planning.plan_by.Goals as goal

pub returns-clause-puts : goal.returns-clause-puts
returns-clause-puts c =
    let rs = c.args.version.now.policy in
    let m = c.args.map.now in
    IfOk-weaker c.started.result (λ done. IsPlanned rs m done) (λ done. stepped rs m ≡ with_cells_on m done.0.puts.items)
    (λ done is. is.puts) c.started.ensures

pub returns-clause-fates : goal.returns-clause-fates
returns-clause-fates c =
    let rs = c.args.version.now.policy in
    let m = c.args.map.now in
    IfOk-weaker c.started.result (λ done. IsPlanned rs m done) (λ done. done.0.fates.items ≡ fates_on rs m)
    (λ done is. is.fates) c.started.ensures

pub returns-clause-chests : goal.returns-clause-chests
returns-clause-chests c =
    let rs = c.args.version.now.policy in
    let m = c.args.map.now in
    IfOk-weaker c.started.result (λ done. IsPlanned rs m done)
    (λ done. All (λ (put : Pos × Cell). is_chest put.1 ≡ false) done.0.puts.items)
    (λ done is. is.chests) c.started.ensures

pub returns-clause-watch : goal.returns-clause-watch
returns-clause-watch c =
    let rs = c.args.version.now.policy in
    let m = c.args.map.now in
    IfOk-weaker c.started.result (λ done. IsPlanned rs m done) (λ done. IsWatch (stepped rs m) done.1)
    (λ done is. is.watch) c.started.ensures
