use Rattle.std.proofs.Common.{ap, ◌∙◌}
use Rattle.std.proofs.lemmas.Result.{on_ok_weaker}
use Rattle.vx_cells.specs.Maps.{cell_on}
use Rattle.vx_power.specs.Dust.{links_on}
use Rattle.vx_power.specs.Spreading.{dust_at}
use Rattle.vx_power.proofs.Reaching.{reaches_on, reaches_as, first_links}
use Rattle.vx_power.proofs.spread.Spread.reach_links_on.Goals as goal

pub returns : goal.returns
unfolding links_on
returns g c = on_ok_weaker c.reach_found-3.result
    (λ third. reaches_on c.requires.some
    (reaches_as (c.dust_at.ensures.found ∙ ap (dust_at (cell_on c.args.map.now) c.args.p) c.dir.ensures
    ∙ first_links (cell_on c.args.map.now) c.args.p c.args.side) c.in_ok-reach_found.ensures)
    (reaches_on c.requires.some (reaches_as c.dust_over.ensures.found c.in_ok-reach_found-2.ensures)
    (reaches_as c.dust_under.ensures.found third)))
    c.reach_found-3.ensures
