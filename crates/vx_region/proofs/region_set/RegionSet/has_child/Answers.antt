use Rattle.std.proofs.Common.{sym, ap, ◌∙◌}
use Rattle.std.specs.Option.{option_copied}
use Rattle.vx_region.specs.contracts.region_set.RegionSet.{the_view}
use Rattle.vx_region.proofs.Counting.{no_child}
use Rattle.vx_region.proofs.Indexing.{children_read}
use Rattle.vx_region.proofs.region_set.RegionSet.has_child.Goals as goal

pub returns-in-Some : goal.returns-in-Some
returns-in-Some c =
    let there = sym c.get.ensures ∙ ap option_copied c.in-Some.is in
    rw (← c.self.view_is)
    (children_read (the_view c.self.inside) c.self.inside.numbers c.self.inside.children c.args.number.0 c.in-Some.region.now c.id.result.now c.count.result
    (rw c.self.view_is there) c.id.ensures c.count.ensures c.self.invariant)

pub returns-in-None : goal.returns-in-None
returns-in-None c =
    let none = sym c.get.ensures ∙ ap option_copied c.in-None.is in
    rw (← c.self.view_is) (no_child (the_view c.self.inside) c.args.number.0 c.self.invariant.forest (rw c.self.view_is none))
