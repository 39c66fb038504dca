use Rattle.std.proofs.Common.{◌≡◌, ◌<◌, Some, ap, sym, subst, ◌∙◌}
use Rattle.vx_geom.specs.Sizes.{sector_count, sector_number}
use Rattle.vx_cells.proofs.Indices.{numbered, number_below}
use Rattle.vx_cells.proofs.MapLemmas.{is_held, cell_found}
use Rattle.vx_cells.proofs.frozen.Frozen.holding.Goals as goal

pub sector_at-requires : goal.sector_at-requires
sector_at-requires c =
    let m = c.args.self.now in
    let number : sector_number m.sizes c.args.p ≡ c.sector_holding.result =
    sym (c.sector_holding.ensures ∙ ap (λ sizes. sector_number sizes c.args.p) c.bounds.ensures) in
    subst (λ n. n < sector_count m.sizes) number
    (number_below m.sizes c.args.p c.soundness.ensures.valid c.requires)

pub returns-clause-holds : goal.returns-clause-holds
returns-clause-holds c =
    let m = c.args.self.now in
    let number : sector_number m.sizes c.args.p ≡ c.sector_holding.result =
    sym (c.sector_holding.ensures ∙ ap (λ sizes. sector_number sizes c.args.p) c.bounds.ensures) in
    is_held m c.args.p c.sector_holding.result (numbered m.sizes c.args.p c.requires ∙ ap Some number)
    c.sector_at.result.now c.soundness.ensures c.sector_at.ensures

pub returns-clause-cell : goal.returns-clause-cell
returns-clause-cell c =
    let m = c.args.self.now in
    let number : sector_number m.sizes c.args.p ≡ c.sector_holding.result =
    sym (c.sector_holding.ensures ∙ ap (λ sizes. sector_number sizes c.args.p) c.bounds.ensures) in
    cell_found m c.args.p c.sector_holding.result (numbered m.sizes c.args.p c.requires ∙ ap Some number)
    c.sector_at.result.now c.sector_at.ensures
