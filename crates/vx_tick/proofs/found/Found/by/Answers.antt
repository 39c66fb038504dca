use Rattle.std.proofs.Common.{◌≡◌, true, ap, sym, ◌∙◌, subst}
use Rattle.std.specs.List.{All}
use Rattle.vx_cells.specs.Maps.{cell_on}
use Rattle.vx_geom.specs.Sizes.{sector_count}
use Rattle.vx_power.specs.Laws.{dust_level}
use Rattle.vx_piston.specs.Moves.{is_restless}
use Rattle.vx_tick.specs.Ticks.{asked, AreInOrder}
use Rattle.vx_tick.proofs.Resting.{all_restless_ask, all_would_move}
use Rattle.vx_tick.proofs.found.Found.by.Goals as goal

pub returns-clause-moves : goal.returns-clause-moves
returns-clause-moves c =
    let m = c.args.map.now in
    let level = dust_level (cell_on m) in
    let count = sector_count m.sizes in
    let seen = c.as_slice.ensures.value ∙ c.requires.restless in
    subst (λ given. AreInOrder given c.in_ok-moves.moves.items)
    (ap (asked m level) seen ∙ all_restless_ask m count)
    (c.in_ok-moves.ensures level
    (subst (All (λ p. is_restless (cell_on m) level p ≡ true)) (sym seen) (all_would_move m count)))
