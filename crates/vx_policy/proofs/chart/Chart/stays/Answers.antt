use Rattle.std.proofs.Common.{Option, option_map, sym, subst}
use Rattle.std.specs.Prelude.{List}
use Rattle.std.specs.List.{All}
use Rattle.vx_decide.specs.Unset.{IsUnset}
use Rattle.vx_flag.specs.declared.flag.Flag.{Flag}
use Rattle.vx_region.specs.declared.region_no.RegionNo.{RegionNo}
use Rattle.vx_policy.specs.Asked.{asked}
use Rattle.vx_policy.specs.Edits.{edited}
use Rattle.vx_policy.specs.Outlines.{ShapesStayBut}
use Rattle.vx_policy.proofs.Outlining.{land_stays}
use Rattle.vx_policy.proofs.chart.Chart.stays.Goals as goal

pub returns-in-None : goal.returns-in-None
returns-in-None c = λ holds.
    let before = c.args.regions.now in
    let after = edited before (asked c.args.edit.now) in
    let flags = c.deref.ensures.value in (
      land_stays before after _ (subst (λ (o : Option RegionNo). ShapesStayBut (option_map (λ n. n.0) o) before after) c.in-None.is c.reshaped.ensures.others)
          c.requires.chart.0,
      subst (λ (fs : List Flag). All (IsUnset after) fs) flags
          (c.stay_unset.ensures holds before (subst (λ (fs : List Flag). All (IsUnset before) fs) (sym flags) c.requires.chart.1)),
    )
