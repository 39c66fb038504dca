use Rattle.std.proofs.Common.{ℕ, List, option_map, sym, ap, ◌∙◌, subst}
use Rattle.vx_name.specs.declared.id.Id.{Id}
use Rattle.vx_region.specs.declared.region_no.RegionNo.{RegionNo}
use Rattle.vx_region.specs.ChildCounts.{Count}
use Rattle.vx_region.proofs.Counting.{counts_as_they_are, counts_of_fewer}
use Rattle.vx_region.proofs.region_set.RegionSet.children_without.Goals as goal

pub returns-in_default : goal.returns-in_default
returns-in_default c =
    let rs = c.args.self.now in
    let count : Count c.in_ok-children.children rs.entries rs.entries =
    subst (λ (counts : List (Id × ℕ)). Count counts rs.entries rs.entries) (sym c.in_ok-children.ensures.cases) (rw (← c.self.view_is) c.self.invariant.counted) in
    counts_as_they_are rs c.args.number.0 c.in_ok-children.children c.requires count (sym c.parent.ensures ∙ ap (option_map (λ (n : RegionNo). n.0)) c.in_default.is)

pub returns : goal.returns
returns c =
    let rs = c.args.self.now in
    let count : Count c.in_ok-children.children rs.entries rs.entries =
    subst (λ (counts : List (Id × ℕ)). Count counts rs.entries rs.entries) (sym c.in_ok-children.ensures.cases) (rw (← c.self.view_is) c.self.invariant.counted) in
    counts_of_fewer rs c.args.number.0 c.in_ok-children.children c.requires count c.in-Some.parent.0 c.id_of.result c.take.new.self
    (sym c.parent.ensures ∙ ap (option_map (λ (n : RegionNo). n.0)) c.in-Some.is) c.id_of.ensures c.in_ok-take.ensures.ok
