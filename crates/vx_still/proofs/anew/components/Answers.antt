use Rattle.std.proofs.Common.{ap, ◌∙◌, arith}
use Rattle.vx_geom.specs.Sizes.{sector_count}
use Rattle.vx_still.proofs.Looking.{more_components, all_components}
use Rattle.vx_still.proofs.anew.components.Goals as goal

pub loop-sector-preserved : goal.loop-sector-preserved
loop-sector-preserved c =
    let m = c.args.map.now in
    let end = c.sectors-sector-end.ensures ∙ ap sector_count c.bounds.ensures in
    more_components m c.loop-sector.sector c.loop-sector.found.items c.in_ok-here.here.items _
    c.soundness.ensures.valid (omega (arith, end)) c.in_ok-here.ensures
    c.in_ok-append.ensures.items c.loop-sector.invariant

pub returns : goal.returns
returns c =
    let m = c.args.map.now in
    let end = c.sectors-sector-end.ensures ∙ ap sector_count c.bounds.ensures in
    all_components m c.loop-sector.sector c.loop-sector.found.items c.soundness.ensures.valid
    (omega (arith, end)) c.loop-sector.invariant
