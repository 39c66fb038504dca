use Rattle.std.proofs.Common.{◌≡◌, ◌<◌, length, slice_get, Some, ap, ◌∙◌, arith}
use Rattle.std.proofs.lemmas.List.{length-set}
use Rattle.vx_base.proofs.Lists.{read_is}
use Rattle.vx_region.proofs.Blocks.{again_joined, again_in_place, again_ends, again_fits}
use Rattle.vx_region.proofs.region_list.edits.put_in_place.Goals as goal

pub overflow_add-start : goal.overflow_add-start
overflow_add-start c =
    let bs = c.loop-index.blocks.items in
    let i = c.loop-index.index in
    let b = c.index_mut-block.result.now in
    let within : i < length bs = omega arith in
    let there : slice_get bs i ≡ Some b = read_is bs i b within c.index_mut-block.ensures.value in
    omega (arith, again_fits bs i b c.put_at.new.self within there c.put_at.ensures.entries, ap length c.put_at.ensures.entries, ap length c.loop-index.invariant.regions)

pub loop-index-preserved : goal.loop-index-preserved
loop-index-preserved c =
    let bs = c.loop-index.blocks.items in
    let i = c.loop-index.index in
    let b = c.index_mut-block.result.now in
    let d = c.put_at.new.self in
    let within : i < length bs = omega arith in
    let there : slice_get bs i ≡ Some b = read_is bs i b within c.index_mut-block.ensures.value in
    record {
      in_place = again_in_place bs i b d within there c.put_at.ensures.entries (c.put_at.ensures.start ∙ c.loop-index.invariant.end) c.loop-index.invariant.in_place;
      end =
          omega (arith, again_ends bs i b d within there c.put_at.ensures.entries, ap length c.put_at.ensures.entries);
      regions = again_joined bs i b d within there c.put_at.ensures.entries ∙ c.loop-index.invariant.regions;
      count = length-set bs i d ∙ c.loop-index.invariant.count;
    }
