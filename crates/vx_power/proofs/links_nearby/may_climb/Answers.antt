use Rattle.std.proofs.Common.{sym, ap, ◌∙◌}
use Rattle.std.proofs.lemmas.Bool.{not-false}
use Rattle.vx_block.specs.Conductors.{conducts}
use Rattle.vx_cells.specs.Maps.{cell_on}
use Rattle.vx_geom.specs.declared.pos.Pos.{Pos}
use Rattle.vx_power.proofs.Close.{close_over, layer_over, none_over, closed_over}
use Rattle.vx_power.specs.Dust.{beside, over}
use Rattle.vx_power.proofs.links_nearby.may_climb.Goals as goal

pub returns-then-is_bare-clause-none : goal.returns-then-is_bare-clause-none
returns-then-is_bare-clause-none c isnt side =
    let p = c.args.p in
    none_over (cell_on c.args.map.now) p side
    (c.is_bare.ensures c.if-is_bare.true (over (beside p side)) (close_over p side)
    (layer_over p side ∙ ap (λ (q : Pos). q.y) (sym c.next_nearby-above.ensures.value)))

pub returns-clause-none : goal.returns-clause-none
returns-clause-none c isnt side =
    let w = cell_on c.args.map.now in
    let p = c.args.p in
    closed_over w p side
    (ap (λ q. conducts (w q)) (sym c.next_nearby-above.ensures.value) ∙ ap conducts (sym c.next_nearby-above.ensures.cell)
    ∙ sym c.has_conductor.ensures ∙ not-false _ isnt)
