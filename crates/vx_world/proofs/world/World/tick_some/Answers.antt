use Rattle.std.proofs.Common.{Global, IfNone, Vec, subst}
use Rattle.vx_geom.specs.declared.pos.Pos.{Pos}
use Rattle.vx_tick.specs.declared.fate.Fate.{Fate}
use Rattle.vx_keeper.specs.Keepers.{KnowsAsBefore}
use Rattle.vx_world.specs.Ticks.{HasTicked}
use Rattle.vx_world.proofs.Since.{if_ok, ticked_since}
use Rattle.vx_world.proofs.world.World.tick_some.Goals as goal

pub returns-in-None-clause-ok : goal.returns-in-None-clause-ok
returns-in-None-clause-ok g c =
    let first = g.A.Naming.first in
    let all = g.A.Places.all in
    let k = c.args.keeper.now in
    let mid = c.make_some-made.new.keeper in
    let next = c.tick_each-in-None.new.keeper in
    let kept = subst (λ made. IfNone made (KnowsAsBefore k mid)) c.in-None.is c.in_ok-fates.ensures.none in
    if_ok c.tick_each-in-None.result {P = λ (fates : Vec (Pos × Fate) Global). HasTicked first all mid fates.items next}
    {Q = λ (fates : Vec (Pos × Fate) Global). HasTicked first all k fates.items next} c.tick_each-in-None.ensures.ok
    (λ fates told. ticked_since first all k mid next fates.items kept told)
