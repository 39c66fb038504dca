use Rattle.std.proofs.Common.{Some, is_ok, ap, sym, ◌∙◌}
use Rattle.vx_flag.specs.Settings.{with_setting}
use Rattle.vx_region.specs.contracts.region_set.RegionSet.{the_view}
use Rattle.vx_region.proofs.Owning.{over_sound, over_changed}
use Rattle.vx_region.proofs.Globals.{flag_at_large, flag_of_region, region_with_settings}
use Rattle.vx_region.proofs.Indexing.{sound_with_flags}
use Rattle.vx_region.proofs.Lookups.{known_found}
use Rattle.vx_region.proofs.region_set.RegionSet.set_flag.Goals as goal

pub invariant_of-self : goal.invariant_of-self
invariant_of-self c = sound_with_flags (the_view c.self.inside) c.self.inside.numbers c.self.inside.children c.set.new.self c.self.invariant

pub returns-then-number-eq0-clause-ok : goal.returns-then-number-eq0-clause-ok
returns-then-number-eq0-clause-ok c =
    rw (← c.self.view_is) (ap (λ flags. record (the_view c.self.inside) { global = flags }) c.set.ensures
    ∙ sym (flag_at_large (the_view c.self.inside) c.args.number.0 c.args.flag (Some c.args.setting) c.if-number-eq0.true))

pub own-requires-clause-known : goal.own-requires-clause-known
own-requires-clause-known c =
    known_found c.args.number.0 (the_view c.self.inside) (region_with_settings _ _ (rw c.self.view_is c.requires) c.if-number-eq0.false)

pub invariant_of-self-2 : goal.invariant_of-self-2
invariant_of-self-2 c =
    over_sound c.args.number.0 (the_view c.self.inside) _ c.in_ok-own.field-0.now c.set_flag.new.self c.in_ok-own.ensures.value
    (c.own.follows.holds c.set_flag.new.self (ap is_ok c.in_ok-own.was))
    c.set_flag.ensures.parent (ap (λ r. r.id) c.set_flag.ensures.value) c.self.inside.numbers c.self.inside.children c.self.invariant

pub returns-clause-ok : goal.returns-clause-ok
returns-clause-ok c =
    rw (← c.self.view_is)
    (over_changed c.args.number.0 (the_view c.self.inside) _ c.in_ok-own.field-0.now c.set_flag.new.self c.in_ok-own.ensures.value
    (c.own.follows.holds c.set_flag.new.self (ap is_ok c.in_ok-own.was))
    (λ r. record r { settings = with_setting r.settings c.args.flag (Some c.args.setting) }) c.self.invariant.forest c.set_flag.ensures.value
    ∙ sym (flag_of_region (the_view c.self.inside) c.args.number.0 c.args.flag (Some c.args.setting) c.if-number-eq0.false))
