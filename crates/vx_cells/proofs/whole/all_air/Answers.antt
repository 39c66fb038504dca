use Rattle.std.proofs.Common.{◌≡◌, suc, ◌+◌, [], ◌∷◌, ◌++◌, length, ap, ◌∙◌, arith}
use Rattle.std.proofs.lemmas.List.{length-append}
use Rattle.vx_cells.specs.Wholes.{airs}
use Rattle.vx_cells.proofs.whole.all_air.Goals as goal

pub loop-number-preserved : goal.loop-number-preserved
loop-number-preserved c =
    let so_far = c.loop-number.invariant in
    let pushed = c.in_ok-push.ensures.items in
    let next : suc c.loop-number.number ≡ c.loop-number.number + 1 = omega arith in
    let count = ap length pushed ∙ length-append c.loop-number.sectors.items (c.in_ok-new.field-0 ∷ []) in (
      pushed ∙ (λ i. so_far.0 i ++ c.in_ok-new.ensures i ∷ []) ∙ ap (airs c.args.bounds) next,
      omega (arith, count, so_far.1),
    )
