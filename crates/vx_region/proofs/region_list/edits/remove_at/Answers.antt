use Rattle.std.proofs.Common.{◌≡◌, ◌≤◌, length, List, slice_get, remove, Some, ap, sym, ◌∙◌, subst, arith}
use Rattle.std.proofs.lemmas.List.Edits.{length-remove}
use Rattle.vx_base.proofs.Lists.{read_is}
use Rattle.vx_region.specs.Blocks.{BlockData, joined, AreInPlace, Holds}
use Rattle.vx_region.proofs.Blocks.{holds_there, taken_out, front_stays}
use Rattle.vx_region.proofs.region_list.edits.remove_at.Goals as goal

pub put_in_place-requires-clause-before : goal.put_in_place-requires-clause-before
put_in_place-requires-clause-before c =
    let bs = c.args.blocks.now.items in
    let k = c.block_of-index.result in
    let b = c.index_mut.result.now in
    let place = c.args.place in
    let before = c.saturating_sub-before.result in
    let there : slice_get bs k ≡ Some b = read_is bs k b (rw (← c.deref.ensures.value) c.block_of-index.ensures.within) c.index_mut.ensures.value in
    let holds : Holds place b = holds_there (Holds place) bs k b there (rw (← c.deref.ensures.value) c.block_of-index.ensures.holds) in
    let low : before ≤ k = omega (arith, c.saturating_sub-before.ensures) in
    subst (λ (ds : List BlockData). AreInPlace 0 ds) (sym (c.join-2.ensures.before before (omega arith) ∙ c.join.ensures.before before low))
    (front_stays bs k b c.remove.new.self place c.requires.in_place there holds c.in_ok-remove.ensures.ok before low)

pub put_in_place-requires-clause-fits : goal.put_in_place-requires-clause-fits
put_in_place-requires-clause-fits c =
    let bs = c.args.blocks.now.items in
    let k = c.block_of-index.result in
    let b = c.index_mut.result.now in
    let place = c.args.place in
    let there : slice_get bs k ≡ Some b = read_is bs k b (rw (← c.deref.ensures.value) c.block_of-index.ensures.within) c.index_mut.ensures.value in
    let holds : Holds place b = holds_there (Holds place) bs k b there (rw (← c.deref.ensures.value) c.block_of-index.ensures.holds) in
    let left : joined c.join-2.new.blocks.items ≡ remove (joined bs) place =
    c.join-2.ensures.regions ∙ c.join.ensures.regions ∙ taken_out bs k b c.remove.new.self place c.requires.in_place there holds c.in_ok-remove.ensures.ok in
    omega (arith, ap length left, length-remove (joined bs) place c.requires.within)

pub returns-clause-ok : goal.returns-clause-ok
returns-clause-ok c =
    let bs = c.args.blocks.now.items in
    let k = c.block_of-index.result in
    let b = c.index_mut.result.now in
    let place = c.args.place in
    let there : slice_get bs k ≡ Some b = read_is bs k b (rw (← c.deref.ensures.value) c.block_of-index.ensures.within) c.index_mut.ensures.value in
    let holds : Holds place b = holds_there (Holds place) bs k b there (rw (← c.deref.ensures.value) c.block_of-index.ensures.holds) in
    c.put_in_place.ensures.regions ∙ c.join-2.ensures.regions ∙ c.join.ensures.regions
    ∙ taken_out bs k b c.remove.new.self place c.requires.in_place there holds c.in_ok-remove.ensures.ok
