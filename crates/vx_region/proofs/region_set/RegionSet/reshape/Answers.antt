use Rattle.std.proofs.Common.{is_ok, ap}
use Rattle.vx_region.specs.Regions.{with_shape}
use Rattle.vx_region.specs.contracts.region_set.RegionSet.{the_view}
use Rattle.vx_region.proofs.Owning.{over_sound, over_changed}
use Rattle.vx_region.proofs.Lookups.{known_found}
use Rattle.vx_region.proofs.region_set.RegionSet.reshape.Goals as goal

pub own-requires-clause-known : goal.own-requires-clause-known
own-requires-clause-known c = known_found c.args.number.0 (the_view c.self.inside) (rw c.self.view_is c.requires)

pub invariant_of-self-2 : goal.invariant_of-self-2
invariant_of-self-2 c =
    over_sound c.args.number.0 (the_view c.self.inside) _ c.in_ok-own.field-0.now c.set_shape.new.self c.in_ok-own.ensures.value
    (c.own.follows.holds c.set_shape.new.self (ap is_ok c.in_ok-own.was))
    c.set_shape.ensures.parent (ap (λ r. r.id) c.set_shape.ensures.value) c.self.inside.numbers c.self.inside.children c.self.invariant

pub returns-clause-ok : goal.returns-clause-ok
unfolding with_shape
returns-clause-ok c =
    rw (← c.self.view_is)
    (over_changed c.args.number.0 (the_view c.self.inside) _ c.in_ok-own.field-0.now c.set_shape.new.self c.in_ok-own.ensures.value
    (c.own.follows.holds c.set_shape.new.self (ap is_ok c.in_ok-own.was))
    (λ r. record r { shape = c.args.shape }) c.self.invariant.forest c.set_shape.ensures.value)
