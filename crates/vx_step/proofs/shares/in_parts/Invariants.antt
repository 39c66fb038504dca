use Rattle.std.proofs.Common.{IfOk, length}
use Rattle.vx_step.specs.Shares.{first_of, AreFromTo, IsShare}
use Rattle.vx_step.proofs.shares.in_parts.Given as goal

-- what the workers so far gave, and what the others did
abbrev pub invariant-loop-share : goal.invariant-loop-share
invariant-loop-share g l = record {
  so_far : AreFromTo (g.W.Work.gives l.work) 0 (first_of (g.W.Work.count l.work) l.fn.workers (length l.yielded)) l.all.items;
  left : AreFromTo (λ worker share. IfOk share (λ outs. IsShare (g.W.Work.gives l.work)
      (g.W.Work.count l.work) l.fn.workers worker outs.items))
      (length l.yielded) l.fn.workers l.share-iterator.rest.items;
}
