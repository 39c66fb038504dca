use Rattle.std.proofs.Common.{◌∷◌, ap, ◌∙◌}
use Rattle.vx_audit.proofs.Counted.{one_begun}
use Rattle.vx_audit.proofs.counts.count_block.Goals as goal

pub loop-mark-preserved : goal.loop-mark-preserved
loop-mark-preserved c =
    one_begun c.args.marks.now c.loop-mark.counts c.loop-mark.left.now c.in-Some.others.now (c.in-Call.seat, c.in-Call.sector) c.add.new.counts
    c.loop-mark.invariant (c.in-Some.ensures ∙ ap (λ m. m ∷ c.in-Some.others.now) c.in-Call.is) (c.add.ensures c.if-not-add.false)
