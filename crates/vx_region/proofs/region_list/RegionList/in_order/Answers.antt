use Rattle.std.proofs.Common.{◌≡◌, ℕ, List, Some, slice_get, sym, subst}
use Rattle.vx_region.specs.Blocks.{BlockData}
use Rattle.vx_region.specs.Regions.{Entry}
use Rattle.vx_base.proofs.Lists.{read_is}
use Rattle.vx_region.proofs.Blocks.{found_in}
use Rattle.vx_region.proofs.region_list.RegionList.in_order.Goals as goal

pub returns-then-found-number : goal.returns-then-found-number
returns-then-found-number c =
    let k = c.last_that-last.result in
    let b = c.in_ok-block.block.now in
    let place = c.place_near-place.result in
    let e : Entry = (c.in_ok-found.found, c.in_ok-found.region.now) in
    let there = subst (λ (bs : List BlockData). slice_get bs k ≡ Some b) c.deref-2.ensures.value
    (read_is c.deref-2.result.now k b c.in_ok-block.ensures.lookup.3.0 c.in_ok-block.ensures.lookup.1) in
    let stands = subst (λ (es : List Entry). slice_get es place ≡ Some e) c.self.view_is
    (found_in c.self.inside.blocks.items k b place e c.self.invariant.0 there (sym c.in_ok-found.ensures)) in
    subst (λ (n : ℕ). slice_get c.args.self.now place ≡ Some (n, e.1)) c.if-found-number.true stands
