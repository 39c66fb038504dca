use Rattle.std.proofs.Common.{◌≡◌, ◌+◌, ◌<◌, suc, length, List, slice_get, slice_set, remove, take, Some, ap, sym, ◌∙◌, subst, arith}
use Rattle.vx_base.proofs.Lists.{read_is}
use Rattle.vx_region.specs.Blocks.{BlockData, joined}
use Rattle.vx_region.proofs.Blocks.{pair_joined, pair_leaves, within_list, ok_holds}
use Rattle.vx_region.proofs.region_list.edits.join.Goals as goal

-- both have the same regions as one
pub returns-then-is_ok-clause-regions : goal.returns-then-is_ok-clause-regions
returns-then-is_ok-clause-regions c =
    let bs = c.args.blocks.now.items in
    let k = c.args.index in
    let b = c.index_mut.result.now in
    let next : k + 1 ≡ suc k = omega arith in
    let beside : slice_get bs (suc k) ≡ Some c.in-Some.next =
    subst (λ (ds : List BlockData). slice_get ds (suc k) ≡ Some c.in-Some.next) c.deref.ensures.value
    (subst (λ n. slice_get c.deref.result.now n ≡ Some c.in-Some.next) next c.in-Some.ensures) in
    let within : k < length bs = omega (arith, within_list bs (suc k) c.in-Some.next beside) in
    let joins = ap (λ (d : BlockData). d.entries) (ok_holds c.extend.result _ (sym c.is_ok.ensures.value ∙ c.if-is_ok.true) c.extend.ensures.ok) in
    ap joined c.remove-next.ensures.items ∙ ap (λ n. joined (remove (slice_set bs k c.extend.new.self) n)) next
    ∙ pair_joined bs k b c.in-Some.next c.extend.new.self (read_is bs k b within c.index_mut.ensures.value) beside joins

pub returns-then-is_ok-clause-before : goal.returns-then-is_ok-clause-before
returns-then-is_ok-clause-before c = λ count low.
    let bs = c.args.blocks.now.items in
    let k = c.args.index in
    let next : k + 1 ≡ suc k = omega arith in
    ap (take count) c.remove-next.ensures.items ∙ ap (λ n. take count (remove (slice_set bs k c.extend.new.self) n)) next
    ∙ pair_leaves bs k c.extend.new.self count low
