use Rattle.std.proofs.Common.{◌≡◌, ◌/◌, List, Some, slice_get, subst}
use Rattle.vx_region.specs.Blocks.{BlockData}
use Rattle.vx_region.specs.declared.block.TheConstants.{FULL}
use Rattle.vx_base.proofs.Lists.{read_is}
use Rattle.vx_region.proofs.Blocks.{shown}
use Rattle.vx_region.proofs.region_list.RegionList.in_full_blocks.Goals as goal

pub returns : goal.returns
returns c =
    let k = c.args.place / FULL in
    let b = c.in_ok-get.field-0.now in
    let there = subst (λ (bs : List BlockData). slice_get bs k ≡ Some b) c.deref.ensures.value
    (read_is c.deref.result.now k b c.in_ok-get.ensures.lookup.3.0 c.in_ok-get.ensures.lookup.1) in
    rw (← c.self.view_is) (shown c.self.inside.blocks.items k b c.args.place c.at.result c.self.invariant.0 there c.at.ensures)
