use Rattle.std.proofs.Common.{◌≡◌, ◌∙◌, ℕ, List, Option, Some, option_map, slice_get, remove, ap, subst}
use Rattle.std.specs.Option.{IfSome}
use Rattle.vx_region.specs.Regions.{Entry}
use Rattle.vx_region.proofs.Places.{entry_there, removed_at}
use Rattle.vx_region.proofs.region_list.RegionList.remove.Goals as goal

pub returns-clause-ok : goal.returns-clause-ok
returns-clause-ok c =
    let place = c.unwrap-place.result in
    let es = c.args.self.now in
    let e = entry_there c.args.number (slice_get es place) (subst (λ (o : Option ℕ). IfSome o (λ i. option_map (λ (a : Entry). a.0) (slice_get es i) ≡ Some c.args.number)) c.unwrap-place.ensures c.place_of.ensures.found) in
    c.in_ok-remove_at.ensures.ok ∙ ap (λ (ds : List Entry). remove ds place) c.self.view_is
    ∙ removed_at c.args.number 0 es place e.0 c.requires.ascending e.1 e.2
