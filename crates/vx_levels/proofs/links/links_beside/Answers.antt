use Rattle.std.proofs.Common.{ap, ◌∙◌}
use Rattle.vx_cells.specs.Maps.{cell_on}
use Rattle.vx_power.specs.Dust.{beside, links_beside}
use Rattle.vx_power.specs.Spreading.{dust_at}
use Rattle.vx_power.proofs.Reaching.{first_links}
use Rattle.vx_levels.proofs.Packing.{some_if}
use Rattle.vx_levels.proofs.links.links_beside.Goals as goal

pub returns : goal.returns
returns c =
    let w = cell_on c.args.map.now in
    let p = c.args.p in
    let side = c.args.side in
    c.is_some.ensures
    ∙ some_if c.dust_at.result (links_beside w p side) (beside p side)
    (c.dust_at.ensures.found ∙ ap (dust_at w p) c.dir.ensures ∙ first_links w p side)
