use Rattle.std.proofs.Common.{ap, ◌∙◌, [], ◌&&◌, if◌then◌else◌, arith}
use Rattle.std.proofs.lemmas.Result.{on_ok_weaker}
use Rattle.vx_block.specs.Conductors.{conducts}
use Rattle.vx_cells.specs.Maps.{cell_on}
use Rattle.vx_geom.specs.Neighbor.{neighbor}
use Rattle.vx_power.specs.Signals.{gives, drives}
use Rattle.vx_power.specs.Spreading.{dust_at, each_dir, fed_towards}
use Rattle.vx_power.proofs.Reaching.{reaches_on, reaches_as}
use Rattle.vx_power.proofs.spread.Spread.reach_towards.Goals as goal

pub returns : goal.returns
unfolding fed_towards
returns g c =
    let w = cell_on c.args.map.now in
    let d = c.args.dir in
    let next = neighbor c.args.device d in
    on_ok_weaker c.reach_driven.result
    (λ driven. reaches_on (omega arith)
    (reaches_as (c.dust_given.ensures.found
    ∙ ap (λ cell. if gives cell d then dust_at w c.args.device d else []) c.requires)
    c.in_ok-reach_found.ensures)
    (reaches_as
    (ap (λ cell. if drives cell d && conducts (w next) then each_dir (dust_at w next) else []) c.requires)
    driven))
    c.reach_driven.ensures
