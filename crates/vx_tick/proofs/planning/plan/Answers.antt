use Rattle.std.proofs.Common.{◌≡◌, ◌++◌, false, length, ap, sym, ◌∙◌, subst}
use Rattle.std.specs.List.{All}
use Rattle.std.proofs.lemmas.Result.{IfOk-weaker}
use Rattle.vx_geom.specs.declared.pos.Pos.{Pos}
use Rattle.vx_block.specs.declared.cell.Cell.{Cell}
use Rattle.vx_store.specs.Codes.{is_chest}
use Rattle.vx_cells.specs.Wholes.{with_cells_on}
use Rattle.vx_tick.specs.Fates.{AreFates}
use Rattle.vx_tick.specs.Leaving.{IsWorked}
use Rattle.vx_tick.specs.Ticks.{fates_on, stepped}
use Rattle.vx_tick.proofs.Plans.{all_puts, no_chests}
use Rattle.vx_tick.proofs.Told.{fates_length}
use Rattle.vx_tick.proofs.planning.plan.Goals as goal
use Rattle.vx_tick.proofs.planning.plan.Goals.{After-planned}

-- what was worked
worked : (c : After-planned) → IsWorked c.args.version.now.policy c.args.map.now
    c.in_ok-done.done.changes.items c.in_ok-done.done.moved.items c.in_ok-done.done.fates.items
worked c =
    let rs = c.args.version.now.policy in
    c.in_ok-done.ensures rs
    (subst (λ moves. AreFates rs moves moves c.in_ok-fates.fates.items)
    (c.as_slice.ensures.value ∙ sym c.as_slice-2.ensures.value) c.in_ok-fates.ensures)

pub worked-requires-clause-each : goal.worked-requires-clause-each
worked-requires-clause-each c =
    let moves = c.as_slice.result.now in
    fates_length c.args.version.now.policy moves moves c.in_ok-fates.fates.items c.in_ok-fates.ensures
    ∙ ap length (c.as_slice.ensures.value ∙ sym c.as_slice-2.ensures.value)

pub returns-clause-puts : goal.returns-clause-puts
returns-clause-puts c =
    let is = worked ((goal.at.returns-clause-puts c).After-planned) in
    let rs = c.args.version.now.policy in
    let m = c.args.map.now in
    let done = c.in_ok-done.done in
    IfOk-weaker c.planned.result (λ plan. plan.puts.items ≡ done.changes.items ++ done.moved.items)
    (λ plan. stepped rs m ≡ with_cells_on m plan.puts.items)
    (λ plan joined. all_puts rs m _ _ plan.puts.items _ is joined)
    c.planned.ensures.puts

pub returns-clause-fates : goal.returns-clause-fates
returns-clause-fates c =
    let is = worked ((goal.at.returns-clause-fates c).After-planned) in
    let done = c.in_ok-done.done in
    IfOk-weaker c.planned.result (λ plan. plan.fates.items ≡ done.fates.items)
    (λ plan. plan.fates.items ≡ fates_on c.args.version.now.policy c.args.map.now)
    (λ plan same. same ∙ is.told)
    c.planned.ensures.fates

pub returns-clause-chests : goal.returns-clause-chests
returns-clause-chests c =
    let is = worked ((goal.at.returns-clause-chests c).After-planned) in
    let rs = c.args.version.now.policy in
    let m = c.args.map.now in
    let done = c.in_ok-done.done in
    IfOk-weaker c.planned.result (λ plan. plan.puts.items ≡ done.changes.items ++ done.moved.items)
    (λ plan. All (λ (put : Pos × Cell). is_chest put.1 ≡ false) plan.puts.items)
    (λ plan joined. no_chests rs m _ _ plan.puts.items _ is joined)
    c.planned.ensures.puts
