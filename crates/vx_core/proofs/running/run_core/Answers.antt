use Rattle.std.proofs.Common.{◌≡◌, map, sym, subst}
use Rattle.std.proofs.lemmas.Result.{IfOk-weaker}
use Rattle.vx_record.specs.Chronicles.{IsRun}
use Rattle.vx_core.specs.Events.{happening}
use Rattle.vx_core.specs.Machines.{chronicle_of}
use Rattle.vx_record.specs.Records.{chronicle_in}
use Rattle.vx_core.specs.declared.core_state.Core.{Core}
use Rattle.vx_core.proofs.Soundness.{is_always_a_run}
use Rattle.vx_core.proofs.running.run_core.Goals as goal

pub returns-clause-run : goal.returns-clause-run
returns-clause-run c =
    let o = c.args.opening.now in
    let events = map happening c.args.events.now in
    IfOk-weaker c.run_named.result (λ (core : Core). chronicle_in core.chronicle ≡ chronicle_of o events)
    (λ (core : Core). IsRun (chronicle_in core.chronicle))
    (λ core is. subst IsRun (sym is) (is_always_a_run o events c.soundness.ensures.map))
    c.run_named.ensures.chronicle
