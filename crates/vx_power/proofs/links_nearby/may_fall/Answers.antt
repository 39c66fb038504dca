use Rattle.std.proofs.Common.{sym, ap, ◌∙◌}
use Rattle.std.proofs.lemmas.Bool.{not-false}
use Rattle.vx_cells.specs.Maps.{cell_on}
use Rattle.vx_geom.specs.declared.pos.Pos.{Pos}
use Rattle.vx_power.proofs.Close.{close_under, layer_under, none_under}
use Rattle.vx_power.specs.Dust.{beside, under}
use Rattle.vx_power.proofs.links_nearby.may_fall.Goals as goal

pub returns : goal.returns
returns c isnt side =
    let p = c.args.p in
    none_under (cell_on c.args.map.now) p side
    (c.is_bare.ensures (not-false _ isnt) (under (beside p side)) (close_under p side)
    (layer_under p side ∙ ap (λ (q : Pos). q.y) (sym c.next_nearby-below.ensures.value)))
