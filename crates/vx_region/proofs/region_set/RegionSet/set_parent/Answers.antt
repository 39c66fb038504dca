use Rattle.std.proofs.Common.{◌≡◌, false, nat_eq, IsSome, option_map, is_ok, ap, sym, subst}
use Rattle.std.specs.Map.{set_value}
use Rattle.vx_region.specs.Ancestry.{is_under}
use Rattle.vx_region.specs.ChildCounts.{Count}
use Rattle.vx_region.specs.Forest.{IsForest}
use Rattle.vx_region.specs.Regions.{RegionData, Regions, region_at, with_parent}
use Rattle.vx_region.specs.declared.region_no.RegionNo.{RegionNo}
use Rattle.vx_region.specs.contracts.region_set.RegionSet.{the_view}
use Rattle.vx_region.proofs.Forests.{forest_parented, if_numbered}
use Rattle.vx_region.proofs.Lookups.{known_found}
use Rattle.vx_region.proofs.Owning.{over_kept, over_changed}
use Rattle.vx_region.proofs.region_set.RegionSet.set_parent.Goals as goal

pub own-requires-clause-known : goal.own-requires-clause-known
own-requires-clause-known c = known_found c.args.number.0 (the_view c.self.inside) (rw c.self.view_is c.requires.known)

pub invariant_of-self-2 : goal.invariant_of-self-2
unfolding with_parent
invariant_of-self-2 c =
    let f = λ (n : RegionNo). n.0 in
    let parent = option_map f c.args.parent in
    let rs = the_view c.self.inside in
    let count = subst (λ (now : Regions). (w : RegionData) → w.parent ≡ parent → Count c.in_ok-children.children now.entries (set_value (nat_eq c.args.number.0) now.entries w))
    (sym c.self.view_is) c.in_ok-children.ensures in
    over_kept c.args.number.0 (the_view c.self.inside) _ c.in_ok-own.field-0.now c.set_parent.new.self c.in_ok-own.ensures.value
    (c.own.follows.holds c.set_parent.new.self (ap is_ok c.in_ok-own.was))
    (ap (λ r. r.id) c.set_parent.ensures)
    (subst IsForest
    (sym (over_changed c.args.number.0 (the_view c.self.inside) _ c.in_ok-own.field-0.now c.set_parent.new.self c.in_ok-own.ensures.value
    (c.own.follows.holds c.set_parent.new.self (ap is_ok c.in_ok-own.was))
    (λ r. record r { parent = parent }) c.self.invariant.forest c.set_parent.ensures))
    (forest_parented rs c.args.number.0 parent (rw c.self.view_is c.requires.known)
    (if_numbered f (λ q. IsSome (region_at rs q)) c.args.parent (rw c.self.view_is c.requires.parent_known))
    (if_numbered f (λ q. is_under rs q c.args.number.0 ≡ false) c.args.parent (rw c.self.view_is c.requires.no_cycle)) c.self.invariant.forest))
    c.self.inside.numbers c.self.inside.children c.in_ok-children.children
    (count c.set_parent.new.self (ap (λ r. r.parent) c.set_parent.ensures)) c.self.invariant

pub returns-clause-ok : goal.returns-clause-ok
unfolding with_parent
returns-clause-ok c =
    rw (← c.self.view_is)
    (over_changed c.args.number.0 (the_view c.self.inside) _ c.in_ok-own.field-0.now c.set_parent.new.self c.in_ok-own.ensures.value
    (c.own.follows.holds c.set_parent.new.self (ap is_ok c.in_ok-own.was))
    (λ r. record r { parent = option_map (λ (n : RegionNo). n.0) c.args.parent }) c.self.invariant.forest c.set_parent.ensures)
