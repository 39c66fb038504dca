use Rattle.std.proofs.Common.{◌+◌, Bool, take, drop, get_or, sym, ◌∙◌}
use Rattle.std.proofs.lemmas.Bool.{both_ways}
use Rattle.vx_geom.specs.Extent.{is_within}
use Rattle.vx_index.specs.declared.patch.Patch.{Patch}
use Rattle.vx_index.proofs.Listed.{no_patch, none_listed, lists, passes, turn, all_listed}
use Rattle.vx_index.proofs.tile.Tile.gather.Goals as goal
use Rattle.vx_index.proofs.tile.Tile.gather.Goals.{then-last-patch+then-holds+in-Ok, else-last-patch, else-last-patch-via-then-last-patch+else-holds, else-last-patch-via-else-last-patch}

pub loop-patch-init : goal.loop-patch-init
loop-patch-init g c =
    none_listed (λ d. is_within d.columns c.args.p) c.args.self.now.patches.items c.args.here.now.items c.requires.empty c.requires.ordered

pub loop-patch-preserved : goal.loop-patch-preserved
loop-patch-preserved g c =
    let test : Patch → Bool = λ d. is_within d.columns c.args.p in
    let all = c.args.self.now.patches.items in
    let items = c.deref-patch-items.result.now in
    let k = c.loop-patch.patch-index in
    let patch = get_or items k no_patch in
    let done = take k all in
    let rest = drop (k + 1) all in
    let here = c.loop-patch.here.items in
    let last = c.loop-patch.last in
    elim c.if-last-patch.branch [
      | then-last-patch+then-holds+in-Ok w ↦
          rw (w.here-is, w.last-is) (turn test all items k here w.try_push.new.self.items last patch.number c.deref-patch-items.ensures.value c.loop-patch-test.true
          (lists test done patch rest here w.try_push.new.self.items last w.in-Ok.ensures.ok w.if-last-patch.true) c.loop-patch.invariant)
      | else-last-patch w ↦ rw (w.here-is, w.last-is) (turn test all items k here here last last c.deref-patch-items.ensures.value c.loop-patch-test.true
          (passes test done patch rest here last (elim w.else-last-patch.branch [
            | else-last-patch-via-then-last-patch+else-holds w' ↦ λ is. absurd (both_ways (test patch) (sym w'.holds.ensures ∙ w'.if-holds.false) is)
            | else-last-patch-via-else-last-patch w' ↦ λ is. w'.if-last-patch.false
          ])) c.loop-patch.invariant)
    ]

pub returns : goal.returns
returns g c all_there =
    all_listed (λ d. is_within d.columns c.args.p) c.args.self.now.patches.items c.deref-patch-items.result.now c.loop-patch.patch-index
    c.loop-patch.here.items c.loop-patch.last c.deref-patch-items.ensures.value c.loop-patch-test.false c.loop-patch.invariant
