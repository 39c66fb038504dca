use Rattle.std.proofs.Common.{◌+◌, drop, ap}
use Rattle.std.proofs.Math.ListN.{drop_of_length-le}
use Rattle.vx_tick.specs.Leaving.{places_of}
use Rattle.vx_tick.proofs.Turning.{next_left, carried, ended}
use Rattle.vx_tick.proofs.leaving.places_of.Goals as goal

pub loop-p-preserved : goal.loop-p-preserved
loop-p-preserved c =
    carried c.loop-p.found.items _ _ (places_of (drop (c.loop-p.p-index + 1) c.args.puts.now)) _ _ c.in_ok-push.ensures.items
    (ap places_of (next_left c.args.puts.now c.loop-p.p-index c.loop-p-item.result c.loop-p-test.true c.loop-p-item.is)) c.loop-p.invariant

pub returns : goal.returns
returns c = ended c.loop-p.found.items _ _ (ap places_of (drop_of_length-le c.args.puts.now c.loop-p-test.false)) c.loop-p.invariant
