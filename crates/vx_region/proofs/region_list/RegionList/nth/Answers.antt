use Rattle.std.proofs.Common.{◌≡◌, slice_get, Some, sym, ◌∙◌}
use Rattle.vx_region.specs.Blocks.{Holds}
use Rattle.vx_base.proofs.Lists.{read_is}
use Rattle.vx_region.proofs.Blocks.{holds_there, entry_is, block_read}
use Rattle.vx_region.proofs.region_list.RegionList.nth.Goals as goal

pub returns : goal.returns
returns c =
    let blocks = c.self.inside.blocks.items in
    let k = c.block_of.result in
    let b = c.index.result.now in
    let there : slice_get blocks k ≡ Some b = read_is blocks k b (rw (← c.deref.ensures.value) c.block_of.ensures.within) c.index.ensures in
    let holds : Holds c.args.place b = holds_there (Holds c.args.place) blocks k b there (rw (← c.deref.ensures.value) c.block_of.ensures.holds) in
    rw (← c.self.view_is) (c.at.ensures ∙ entry_is b c.args.place holds ∙ sym (block_read blocks k b c.args.place c.self.invariant.0 there holds))
