use Rattle.std.proofs.Common.{◌≡◌, map, below_more, sym, ◌∙◌}
use Rattle.vx_record.specs.Settling.{callers_at}
use Rattle.vx_record.proofs.settling.each_has_one.Goals as goal

pub loop-seat-preserved : goal.loop-seat-preserved
loop-seat-preserved g c =
    below_more (λ seat. callers_at seat (map g.P.Caller.caller c.args.callers.now) ≡ 1) c.loop-seat.seat
    c.loop-seat.invariant (sym c.callers_at.ensures ∙ c.if-callers_at-ne1.false)
