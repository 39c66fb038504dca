use Rattle.std.proofs.Common.{◌≡◌, ◌<◌, ◌+◌, [], ◌∷◌, ◌++◌, IfOk, length, sym, ap, ◌∙◌, subst, arith}
use Rattle.std.proofs.lemmas.List.{length_push}
use Rattle.vx_step.specs.Shares.{first_of, AreFromTo, IsShare}
use Rattle.vx_step.proofs.Dividing.{first_is_none, last_is_all}
use Rattle.vx_step.proofs.Joining.{none_yet, by_index, first, others, joined}
use Rattle.vx_step.proofs.shares.in_parts.Goals as goal

pub loop-share-init : goal.loop-share-init
loop-share-init g c =
    let P = g.W.Work.gives c.args.work.now in
    let n = g.W.Work.count c.args.work.now in
    let k = c.args.workers in
    let some : 0 < k = omega (arith, c.requires.workers) in
    record {
      so_far = rw c.new-all.ensures.items (rw (first_is_none n k some) (none_yet P 0));
      left = rw c.into_iter-share-iterator.ensures.into_iter_gives.0
          (by_index (λ worker share. IfOk share (λ outs. IsShare P n k worker outs.items)) k
          c.in_ok-shares.shares.items c.in_ok-shares.ensures.all c.in_ok-shares.ensures.each);
    }

pub loop-share-preserved : goal.loop-share-preserved
loop-share-preserved g c =
    let P = g.W.Work.gives c.args.work.now in
    let n = g.W.Work.count c.args.work.now in
    let k = c.args.workers in
    let i = length c.loop-share.yielded in
    let more : i + 1 ≡ length (c.loop-share.yielded ++ c.in-Some.share ∷ []) = sym (length_push c.loop-share.yielded c.in-Some.share) in
    let left = rw c.in-Some.ensures.steps.0 at c.loop-share.invariant.left in
    let one = first _ i k c.in-Some.share c.next.new.self.rest.items left in
    let share = rw c.in_ok-share.was at one in
    record {
      so_far = rw c.in_ok-append.ensures.items (rw (sym more)
          (joined P 0 (first_of n k i) (first_of n k (i + 1)) c.loop-share.all.items c.in_ok-share.field-0.items
          c.loop-share.invariant.so_far share));
      left = rw (sym more) (others _ i k c.in-Some.share c.next.new.self.rest.items left);
    }

pub returns : goal.returns
returns g c =
    let P = g.W.Work.gives c.args.work.now in
    let n = g.W.Work.count c.args.work.now in
    let k = c.args.workers in
    let some : 0 < k = omega (arith, c.requires.workers) in
    let none = c.in-None.ensures.steps in
    let all : length c.loop-share.yielded ≡ k = omega (arith, none.0, c.loop-share.invariant.left.all) in
    subst (λ b. AreFromTo P 0 b c.loop-share.all.items)
    (ap (first_of n k) all ∙ last_is_all n k some) c.loop-share.invariant.so_far
