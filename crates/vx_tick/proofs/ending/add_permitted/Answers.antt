use Rattle.vx_tick.proofs.Permitting.{table_claimed, table_stays}
use Rattle.vx_tick.proofs.ending.add_permitted.Goals as goal
use Rattle.vx_tick.proofs.ending.add_permitted.Goals.{then-is_none+in_ok-add, else-is_none}

pub loop-i-preserved : goal.loop-i-preserved
loop-i-preserved c = λ rs known.
    let moves = c.args.moves.now in
    let so_far = c.loop-i.invariant rs known in
    elim c.if-is_none.branch [
      | then-is_none+in_ok-add w ↦
          rw w.claims-is (table_claimed rs moves c.args.denials.now c.loop-i.i c.loop-i-test.true known
          w.index-moves-i.result c.loop-i.claims w.add.new.self w.index-moves-i.is
          w.if-is_none.ensures so_far w.in_ok-add.ensures)
      | else-is_none w ↦
          rw w.claims-is (table_stays rs moves c.args.denials.now c.loop-i.i c.loop-i-test.true known
          c.loop-i.claims w.if-is_none.ensures so_far)
    ]
