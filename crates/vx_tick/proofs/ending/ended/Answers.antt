use Rattle.std.proofs.Common.{◌∙◌, ap, sym}
use Rattle.vx_cause.specs.Judging.{denial}
use Rattle.vx_tick.proofs.Permitting.{denial_at}
use Rattle.vx_tick.proofs.Told.{fates_next}
use Rattle.vx_tick.proofs.ending.ended.Goals as goal

pub loop-i-preserved : goal.loop-i-preserved
loop-i-preserved c = λ rs all known table.
    let moves = c.args.moves.now in
    let i = c.loop-i.i in
    let m = c.index-moves-i.result in
    let denied = denial_at rs moves c.args.denials.now i c.loop-i-test.true known m
    ∙ sym (ap (denial rs) c.index-moves-i.is) in
    rw c.in_ok-push.ensures.items
    (fates_next rs all moves c.loop-i.fates.items i m c.m.inside.at c.end_of.result
    c.loop-i-test.true c.index-moves-i.is (ap (λ x. x.at) c.m.view_is)
    (c.loop-i.invariant rs all known table) (c.end_of.ensures rs all denied table))
