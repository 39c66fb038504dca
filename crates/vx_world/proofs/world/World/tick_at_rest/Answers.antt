use Rattle.std.proofs.Common.{Global, Vec}
use Rattle.std.proofs.lemmas.Result.{on_err_weaker}
use Rattle.vx_geom.specs.declared.pos.Pos.{Pos}
use Rattle.vx_tick.specs.declared.fate.Fate.{Fate}
use Rattle.vx_world.specs.Ticks.{HasTicked}
use Rattle.vx_world.proofs.Since.{if_ok, knew, rested_ticked, ticked_since}
use Rattle.vx_world.proofs.world.World.tick_at_rest.Goals as goal

pub returns-then-not-all_rest-clause-ok : goal.returns-then-not-all_rest-clause-ok
returns-then-not-all_rest-clause-ok g c =
    let first = g.A.Naming.first in
    let all = g.A.Places.all in
    let k = c.args.keeper.now in
    let mid = c.ready_at_rest.new.self in
    let next = c.tick_each.new.keeper in
    if_ok c.tick_each.result {P = λ (fates : Vec (Pos × Fate) Global). HasTicked first all mid fates.items next}
    {Q = λ (fates : Vec (Pos × Fate) Global). HasTicked first all k fates.items next} c.tick_each.ensures.ok
    (λ fates told. ticked_since first all k mid next fates.items c.ready_at_rest.ensures.kept told)

pub returns-then-not-all_rest-clause-err : goal.returns-then-not-all_rest-clause-err
returns-then-not-all_rest-clause-err g c =
    on_err_weaker c.tick_each.result
    (knew c.args.keeper.now c.ready_at_rest.new.self c.tick_each.new.keeper c.ready_at_rest.ensures.kept) c.tick_each.ensures.err

pub returns-clause-ok : goal.returns-clause-ok
returns-clause-ok g c =
    let first = g.A.Naming.first in
    let all = g.A.Places.all in
    let mid = c.ready_at_rest.new.self in
    let next = c.close_at_rest-fates.new.self in
    let done = c.close_at_rest-fates.ensures in
    ticked_since first all c.args.keeper.now mid next c.close_at_rest-fates.result.0.items c.ready_at_rest.ensures.kept
    (rested_ticked first all mid next c.close_at_rest-fates.result.0.items c.soundness.ensures done.chronicle done.counts done.world done.seen done.fates)
