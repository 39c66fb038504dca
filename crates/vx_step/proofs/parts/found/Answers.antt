use Rattle.std.proofs.Common.{◌∙◌, subst}
use Rattle.vx_cells.specs.Maps.{MapData}
use Rattle.vx_geom.specs.Sizes.{sector_count}
use Rattle.vx_tick.specs.declared.found.Found.{Found}
use Rattle.vx_tick.specs.Ticks.{AreInOrder}
use Rattle.vx_step.specs.Shares.{AreFromTo, IsFoundIn}
use Rattle.vx_step.proofs.AllFound.{all_moves}
use Rattle.vx_step.proofs.Joining.{all_mapped}
use Rattle.vx_step.proofs.parts.found.Goals as goal

pub returns-clause-changes : goal.returns-clause-changes
returns-clause-changes g c =
    let found = subst (λ (m : MapData). AreFromTo {X = Found} (λ s f. IsFoundIn m s f) 0 (sector_count m.sizes) c.in_ok-found.found.items)
    (c.new.ensures ∙ c.new-map.ensures) c.in_ok-found.ensures in
    rw c.in_ok-changes.ensures.changes
    (all_mapped _ _ _ (λ i f is. is.0) 0 (sector_count c.args.bounds) c.in_ok-found.found.items found)

pub returns-clause-moves : goal.returns-clause-moves
returns-clause-moves g c =
    let m : MapData = record { sizes = c.args.bounds; sectors = c.args.cells.now } in
    let found = subst (λ (m : MapData). AreFromTo {X = Found} (λ s f. IsFoundIn m s f) 0 (sector_count m.sizes) c.in_ok-found.found.items)
    (c.new.ensures ∙ c.new-map.ensures) c.in_ok-found.ensures in
    subst (λ given. AreInOrder given c.sort_moves.new.moves.items)
    (c.in_ok-changes.ensures.moves
    ∙ all_moves m (sector_count c.args.bounds) c.in_ok-found.found.items found)
    c.sort_moves.ensures
