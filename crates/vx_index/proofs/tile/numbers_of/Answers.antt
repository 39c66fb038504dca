use Rattle.std.proofs.Common.{◌+◌, Bool, true, take, drop, get_or, refl}
use Rattle.vx_index.specs.declared.patch.Patch.{Patch}
use Rattle.vx_index.proofs.Listed.{no_patch, none_listed, lists, passes, turn, all_listed}
use Rattle.vx_index.proofs.tile.numbers_of.Goals as goal
use Rattle.vx_index.proofs.tile.numbers_of.Goals.{then-last-patch+in_ok-push, else-last-patch}

pub loop-patch-init : goal.loop-patch-init
loop-patch-init c ordered = none_listed (λ d. true) c.args.patches.now _ c.new-numbers.ensures.items ordered

pub loop-patch-preserved : goal.loop-patch-preserved
loop-patch-preserved c ordered =
    let test : Patch → Bool = λ d. true in
    let all = c.args.patches.now in
    let k = c.loop-patch.patch-index in
    let patch = get_or all k no_patch in
    let done = take k all in
    let rest = drop (k + 1) all in
    let numbers = c.loop-patch.numbers.items in
    let last = c.loop-patch.last in
    let held = c.loop-patch.invariant ordered in
    elim c.if-last-patch.branch [
      | then-last-patch+in_ok-push w ↦
          rw (w.numbers-is, w.last-is) (turn test all all k numbers w.push.new.self.items last patch.number refl c.loop-patch-test.true
          (lists test done patch rest numbers w.push.new.self.items last w.in_ok-push.ensures.items w.if-last-patch.true) held)
      | else-last-patch w ↦
          rw (w.numbers-is, w.last-is) (turn test all all k numbers numbers last last refl c.loop-patch-test.true
          (passes test done patch rest numbers last (λ is. w.if-last-patch.false)) held)
    ]

pub returns : goal.returns
returns c ordered =
    all_listed (λ d. true) c.args.patches.now c.args.patches.now c.loop-patch.patch-index c.loop-patch.numbers.items c.loop-patch.last refl
    c.loop-patch-test.false (c.loop-patch.invariant ordered)
