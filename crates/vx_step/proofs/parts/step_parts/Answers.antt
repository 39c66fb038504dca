use Rattle.std.proofs.Common.{◌≡◌}
use Rattle.std.proofs.lemmas.Result.{IfOk-weaker}
use Rattle.vx_cells.specs.Maps.{MapData}
use Rattle.vx_tick.specs.Ticks.{IsTick, stepped, fates_on}
use Rattle.vx_tick.proofs.OneTick.{tick_is_stepped}
use Rattle.vx_step.proofs.parts.step_parts.Goals as goal

pub returns-clause-map : goal.returns-clause-map
returns-clause-map g c =
    let rs = c.args.version.now.policy in
    let m : MapData = record { sizes = c.args.bounds; sectors = c.args.cells.now } in
    IfOk-weaker c.tick.result (λ after. IsTick rs m after.0 after.1.items) (λ after. after.0 ≡ stepped rs m)
    (λ after tick. (tick_is_stepped rs m after.0 after.1.items tick).0) c.tick.ensures

pub returns-clause-fates : goal.returns-clause-fates
returns-clause-fates g c =
    let rs = c.args.version.now.policy in
    let m : MapData = record { sizes = c.args.bounds; sectors = c.args.cells.now } in
    IfOk-weaker c.tick.result (λ after. IsTick rs m after.0 after.1.items) (λ after. after.1.items ≡ fates_on rs m)
    (λ after tick. (tick_is_stepped rs m after.0 after.1.items tick).1) c.tick.ensures
