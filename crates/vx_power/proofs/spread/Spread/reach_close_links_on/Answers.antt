use Rattle.std.proofs.Common.{if◌then◌else◌, [], ◌∷◌, sym, ap, ◌∙◌}
use Rattle.std.proofs.lemmas.Bool.{and_parts}
use Rattle.std.proofs.lemmas.Result.{on_ok_weaker}
use Rattle.vx_block.specs.Components.{is_dust}
use Rattle.vx_cells.specs.Maps.{cell_on}
use Rattle.vx_power.specs.Dust.{links_beside, links_up, links_down, links_on}
use Rattle.vx_power.proofs.Reaching.{reaches_on, reaches_as}
use Rattle.vx_power.proofs.spread.Spread.reach_close_links_on.Goals as goal

pub dust_if-beside-requires : goal.dust_if-beside-requires
unfolding links_beside
dust_if-beside-requires g c is =
    ap (λ q. is_dust (cell_on c.args.map.now q)) c.place_beside.ensures.value ∙ sym c.links_beside.ensures ∙ is

pub dust_if-over-requires : goal.dust_if-over-requires
unfolding links_up
dust_if-over-requires g c is =
    ap (λ q. is_dust (cell_on c.args.map.now q)) c.place_over.ensures
    ∙ (and_parts _ _ (sym c.links_up.ensures ∙ is)).0

pub dust_if-under-requires : goal.dust_if-under-requires
unfolding links_down
dust_if-under-requires g c is =
    ap (λ q. is_dust (cell_on c.args.map.now q)) c.place_under.ensures
    ∙ (and_parts _ _ (sym c.links_down.ensures ∙ is)).0

pub returns : goal.returns
unfolding links_on
returns g c = on_ok_weaker c.reach_found-3.result
    (λ third. reaches_on c.requires.some
    (reaches_as (c.dust_if-beside.ensures.found
    ∙ (λ i. if c.links_beside.ensures i then c.place_beside.ensures.value i ∷ [] else [])) c.in_ok-reach_found.ensures)
    (reaches_on c.requires.some
    (reaches_as (c.dust_if-over.ensures.found
    ∙ (λ i. if c.links_up.ensures i then c.place_over.ensures i ∷ [] else [])) c.in_ok-reach_found-2.ensures)
    (reaches_as (c.dust_if-under.ensures.found
    ∙ (λ i. if c.links_down.ensures i then c.place_under.ensures i ∷ [] else [])) third)))
    c.reach_found-3.ensures
