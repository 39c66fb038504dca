use Rattle.vx_session.proofs.Spreading.{both_changed, one_changed}
use Rattle.vx_session.proofs.halving.+halves.Goals as goal

pub at_once-returns-in-Some : goal.at_once-returns-in-Some
at_once-returns-in-Some g t c =
    one_changed g.F.Fn c.args.f.now c.args.xs.now c.in-Some.x.now c.at_one.new.x c.if-xs-lt2.true c.in-Some.ensures.item.1 c.at_one.ensures

pub at_once-returns-then-is_busy-2 : goal.at_once-returns-then-is_busy-2
at_once-returns-then-is_busy-2 g t c =
    both_changed g.F.Fn c.args.f.now c.split_at_mut-front.result.0.now c.both.new.front c.split_at_mut-front.result.1.now c.both.new.back
    c.args.xs.now c.split_at_mut-front.ensures.value c.both.ensures.front c.both.ensures.back

pub at_once-returns : goal.at_once-returns
at_once-returns g t c =
    both_changed g.F.Fn c.args.f.now c.split_at_mut-front.result.0.now c.at_once.new.xs c.split_at_mut-front.result.1.now c.at_once-2.new.xs
    c.args.xs.now c.split_at_mut-front.ensures.value c.at_once.ensures c.at_once-2.ensures
