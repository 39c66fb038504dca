use Rattle.std.proofs.Common.{ℕ, Bool, ◌&&◌, sym, ◌∙◌}
use Rattle.vx_base.proofs.Lists.{any_here, any_next}
use Rattle.vx_geom.specs.declared.pos.Pos.{Pos}
use Rattle.vx_geom.specs.Outline.{is_in}
use Rattle.vx_region.specs.Association.{share_domain}
use Rattle.vx_region.specs.Regions.{Entry, Regions}
use Rattle.vx_decide.proofs.Sufficing.{domains_of_all}
use Rattle.vx_decide.proofs.asker.Asker.stands_in_host.Goals as goal

-- the region contains the place and shares a domain with that of the number
abbrev stood_in : Regions → Pos → ℕ → Entry → Bool
stood_in rs p n e = is_in e.1.shape p && share_domain rs e.0 n

pub loop-i-init : goal.loop-i-init
loop-i-init c = domains_of_all c.args.self.now.regions.now c.args.place.now c.args.self.now.hosts c.requires c.args.number.0

pub returns-then-lets_in : goal.returns-then-lets_in
returns-then-lets_in c =
    sym (any_here (stood_in c.args.self.now.regions.now c.args.place.now c.args.number.0) c.args.self.now.hosts c.loop-i.i _ c.nth.ensures
    (sym c.lets_in.ensures ∙ c.if-lets_in.true)) ∙ c.loop-i.invariant

pub loop-i-preserved : goal.loop-i-preserved
loop-i-preserved c =
    sym (any_next (stood_in c.args.self.now.regions.now c.args.place.now c.args.number.0) c.args.self.now.hosts c.loop-i.i _ c.nth.ensures
    (sym c.lets_in.ensures ∙ c.if-lets_in.false)) ∙ c.loop-i.invariant
