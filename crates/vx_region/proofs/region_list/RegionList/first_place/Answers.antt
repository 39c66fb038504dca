use Rattle.std.proofs.Common.{◌≡◌, ◌-◌, ◌+◌, length, slice_get, Some, ap, sym, ◌∙◌, subst, arith}
use Rattle.vx_region.specs.Blocks.{AreBefore}
use Rattle.vx_region.specs.Regions.{Entry}
use Rattle.vx_region.proofs.Places.{before_last}
use Rattle.vx_region.proofs.region_list.RegionList.first_place.Goals as goal

pub returns-in-Some : goal.returns-in-Some
returns-in-Some c =
    let es = c.args.self.now in
    let count : c.self.inside.len ≡ length es = c.self.invariant.1 ∙ ap length c.self.view_is in
    let last : Entry = (c.in-Some.last, c.in-Some.field-0-1.now) in
    let there : slice_get es (length es - 1) ≡ Some last =
    subst (λ k. slice_get es k ≡ Some last) (c.saturating_sub.ensures ∙ ap (λ n. n - 1) count) (sym c.in-Some.ensures) in
    let is : c.saturating_sub-in-Some.result ≡ c.args.number - ((last.0 - length es) + 1) = omega arith in
    subst (λ n. AreBefore n c.args.number es) (sym is) (before_last c.args.number es last c.requires there)
