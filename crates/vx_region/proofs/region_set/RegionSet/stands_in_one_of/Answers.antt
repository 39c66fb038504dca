use Rattle.std.proofs.Common.{ℕ, Bool, ◌&&◌, ap, sym, ◌∙◌}
use Rattle.std.proofs.Math.Bool.{and-false}
use Rattle.vx_base.proofs.Lists.{any_here, any_next}
use Rattle.vx_geom.specs.declared.pos.Pos.{Pos}
use Rattle.vx_geom.specs.Outline.{is_in}
use Rattle.vx_region.specs.Association.{share_domain, stands_in_domain}
use Rattle.vx_region.specs.Regions.{Entry, Regions}
use Rattle.vx_region.proofs.region_set.RegionSet.stands_in_one_of.Goals as goal

-- the region contains the place and shares a domain with that of the number
abbrev stood_in : Regions → Pos → ℕ → Entry → Bool
stood_in rs p n e = is_in e.1.shape p && share_domain rs e.0 n

pub returns-then-share_domain : goal.returns-then-share_domain
unfolding stands_in_domain
returns-then-share_domain c =
    sym (any_here (stood_in c.args.self.now c.args.place.now c.args.number.0) c.args.self.now.entries c.loop-i.i _ c.nth.ensures
    (ap (λ b. b && share_domain c.args.self.now c.nth.result.0.0 c.args.number.0) (sym c.contains.ensures ∙ c.if-not-contains.false)
    ∙ sym c.share_domain.ensures ∙ c.if-share_domain.true))
    ∙ c.loop-i.invariant

pub loop-i-preserved-then-not-contains : goal.loop-i-preserved-then-not-contains
loop-i-preserved-then-not-contains c =
    sym (any_next (stood_in c.args.self.now c.args.place.now c.args.number.0) c.args.self.now.entries c.loop-i.i _ c.nth.ensures
    (ap (λ b. b && share_domain c.args.self.now c.nth.result.0.0 c.args.number.0) (sym c.contains.ensures ∙ c.if-not-contains.true)))
    ∙ c.loop-i.invariant

pub loop-i-preserved : goal.loop-i-preserved
loop-i-preserved c =
    sym (any_next (stood_in c.args.self.now c.args.place.now c.args.number.0) c.args.self.now.entries c.loop-i.i _ c.nth.ensures
    (ap (λ b. is_in c.nth.result.1.now.shape c.args.place.now && b) (sym c.share_domain.ensures ∙ c.if-share_domain.false)
    ∙ and-false (is_in c.nth.result.1.now.shape c.args.place.now)))
    ∙ c.loop-i.invariant
