use Rattle.vx_piston.proofs.Wanted.{table_more}
use Rattle.vx_piston.proofs.claiming.add_all.Goals as goal

pub loop-m-preserved : goal.loop-m-preserved
loop-m-preserved c =
    table_more c.args.moves.now c.loop-m.m-index c.m-item.result c.loop-m.claims c.add.new.self
    c.loop-m-test.true c.m-item.is c.loop-m.invariant c.in_ok-add.ensures
