use Rattle.std.proofs.Common.{◌+◌, drop, ap}
use Rattle.std.proofs.Math.ListN.{drop_of_length-le}
use Rattle.vx_tick.specs.Ticks.{put_down}
use Rattle.vx_tick.proofs.Turning.{carried, ended, put_first}
use Rattle.vx_tick.proofs.effects.put_down.Goals as goal

pub loop-i-preserved : goal.loop-i-preserved
loop-i-preserved g c =
    let w = g.S.Standing.stands c.args.map.now in
    carried c.loop-i.cells.items _ _ (put_down w (drop (c.loop-i.i + 1) c.args.moves.now) (drop (c.loop-i.i + 1) c.args.fates.now)) _ _ c.in_ok-add_by.ensures
    (put_first w c.args.moves.now c.args.fates.now c.loop-i.i c.index-moves-i.result _ c.loop-i-test.true c.requires.each c.index-moves-i.is) c.loop-i.invariant

pub returns : goal.returns
returns g c =
    let w = g.S.Standing.stands c.args.map.now in
    ended c.loop-i.cells.items _ _ (ap (λ moves. put_down w moves (drop c.loop-i.i c.args.fates.now))
    (drop_of_length-le c.args.moves.now c.loop-i-test.false)) c.loop-i.invariant
