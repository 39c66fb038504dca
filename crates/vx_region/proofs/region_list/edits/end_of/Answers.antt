use Rattle.std.proofs.Common.{◌≡◌, suc, length, slice_get, take, Some, ap, sym, ◌∙◌, subst, arith}
use Rattle.vx_base.proofs.Lists.{read_is}
use Rattle.vx_region.specs.Blocks.{joined, AreInPlace}
use Rattle.vx_region.proofs.Blocks.{end_in_place, front_fits}
use Rattle.vx_region.proofs.region_list.edits.end_of.Goals as goal

pub overflow_add-result : goal.overflow_add-result
overflow_add-result c =
    let bs = c.args.blocks.now in
    let k = c.in-Some.last in
    let b = c.index-blocks-last.result in
    let same : c.args.index ≡ suc k = omega (arith, c.in-Some.ensures.0, c.in-Some.ensures.1) in
    let there : slice_get bs k ≡ Some b = read_is bs k b (omega arith) c.index-blocks-last.is in
    let end = end_in_place 0 bs k b (subst (λ n. AreInPlace 0 (take n bs)) same c.requires.before) there in
    omega (arith, end, front_fits (suc k) bs)

pub returns : goal.returns
returns c =
    let bs = c.args.blocks.now in
    let k = c.in-Some.last in
    let b = c.index-blocks-last.result in
    let same : c.args.index ≡ suc k = omega (arith, c.in-Some.ensures.0, c.in-Some.ensures.1) in
    let there : slice_get bs k ≡ Some b = read_is bs k b (omega arith) c.index-blocks-last.is in
    let end = end_in_place 0 bs k b (subst (λ n. AreInPlace 0 (take n bs)) same c.requires.before) there in
    omega (arith, end) ∙ ap (λ n. length (joined (take n bs))) (sym same)
