use Rattle.std.proofs.Common.{None, Some, Option, option_map, sym, ◌∙◌, subst}
use Rattle.vx_region.specs.declared.region_no.RegionNo.{RegionNo}
use Rattle.vx_policy.specs.Asked.{asked}
use Rattle.vx_policy.specs.Edits.{edited}
use Rattle.vx_policy.specs.Outlines.{ShapesStayBut}
use Rattle.vx_policy.proofs.Outlining.{copy_tells, renewed_tells}
use Rattle.vx_policy.proofs.land_after.land_after.Goals as goal

-- no shape changes
pub returns-in_default : goal.returns-in_default
returns-in_default c =
    let before = c.args.regions.now in
    let after = edited before (asked c.args.edit.now) in
    copy_tells before after c.args.land.now c.try_clone.result
    (subst (λ (o : Option RegionNo). ShapesStayBut (option_map (λ n. n.0) o) before after) c.in_default.is c.reshaped.ensures.others)
    c.requires.land c.try_clone.ensures

-- the region has another shape, or is new
pub returns-in-Some-2 : goal.returns-in-Some-2
returns-in-Some-2 c =
    let before = c.args.regions.now in
    let after = edited before (asked c.args.edit.now) in
    renewed_tells before after c.in-Some.number.0 (Some c.in-Some-2.shape) c.put.result c.in-Some.ensures.others
    (c.in-Some.ensures.this ∙ sym c.in_ok-shape.ensures ∙ c.in-Some-2.is) c.put.ensures

-- or is gone
pub returns-in-None : goal.returns-in-None
returns-in-None c =
    let before = c.args.regions.now in
    let after = edited before (asked c.args.edit.now) in
    renewed_tells before after c.in-Some.number.0 None c.without.result c.in-Some.ensures.others
    (c.in-Some.ensures.this ∙ sym c.in_ok-shape.ensures ∙ c.in-None.is) c.without.ensures
