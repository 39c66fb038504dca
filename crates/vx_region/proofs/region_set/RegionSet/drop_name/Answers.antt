use Rattle.std.proofs.Common.{is_ok, ap, sym, ◌∙◌}
use Rattle.std.proofs.lemmas.Result.{on_ok_weaker, on_err_weaker}
use Rattle.vx_region.specs.Regions.{losing, without_name}
use Rattle.vx_region.specs.contracts.region_set.RegionSet.{the_view}
use Rattle.vx_region.proofs.Owning.{left_back, over_sound, over_changed}
use Rattle.vx_region.proofs.Rosters.{absent_already}
use Rattle.vx_region.proofs.Lookups.{known_found}
use Rattle.vx_region.proofs.region_set.RegionSet.drop_name.Goals as goal

pub returns-then-not-has_name-clause-ok : goal.returns-then-not-has_name-clause-ok
returns-then-not-has_name-clause-ok c =
    let hasnt = sym c.has_name.ensures ∙ c.if-not-has_name.true in
    rw (← c.self.view_is) (sym (absent_already (the_view c.self.inside) c.args.number.0 c.args.roster c.args.name.now.text.bytes
    c.self.invariant.forest.numbered (rw c.self.view_is c.requires) (rw c.self.view_is hasnt)))

pub own-requires-clause-known : goal.own-requires-clause-known
own-requires-clause-known c = known_found c.args.number.0 (the_view c.self.inside) (rw c.self.view_is c.requires)

pub invariant_of-self-2 : goal.invariant_of-self-2
invariant_of-self-2 c =
    over_sound c.args.number.0 (the_view c.self.inside) _ c.in_ok-own.field-0.now c.drop_name.new.self c.in_ok-own.ensures.value
    (c.own.follows.holds c.drop_name.new.self (ap is_ok c.in_ok-own.was))
    c.drop_name.ensures.parent c.drop_name.ensures.id c.self.inside.numbers c.self.inside.children c.self.invariant

pub returns-clause-ok : goal.returns-clause-ok
unfolding without_name
returns-clause-ok c =
    rw (← c.self.view_is) (on_ok_weaker c.drop_name.result
    (over_changed c.args.number.0 (the_view c.self.inside) _ c.in_ok-own.field-0.now c.drop_name.new.self c.in_ok-own.ensures.value
    (c.own.follows.holds c.drop_name.new.self (ap is_ok c.in_ok-own.was))
    (losing c.args.roster c.args.name.now.text.bytes) c.self.invariant.forest)
    c.drop_name.ensures.ok)

pub returns-clause-err : goal.returns-clause-err
returns-clause-err c =
    rw (← c.self.view_is) (on_err_weaker c.drop_name.result
    (left_back c.args.number.0 (the_view c.self.inside) _ c.in_ok-own.field-0.now c.drop_name.new.self c.in_ok-own.ensures.value
    (c.own.follows.holds c.drop_name.new.self (ap is_ok c.in_ok-own.was)))
    c.drop_name.ensures.err)
