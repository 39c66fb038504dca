use Rattle.std.proofs.Common.{◌≡◌, IfOk, subst}
use Rattle.vx_cells.specs.Maps.{MapData}
use Rattle.vx_geom.specs.Sizes.{sector_count}
use Rattle.vx_tick.specs.declared.found.Found.{Found}
use Rattle.vx_step.specs.Shares.{AreFromTo, IsFoundIn}
use Rattle.vx_tick.specs.Ticks.{AreInOrder}
use Rattle.vx_step.proofs.AllFound.{all_changes, all_pistons, all_moves}
use Rattle.vx_step.proofs.planning_parts.found.Goals as goal

pub returns-clause-changes : goal.returns-clause-changes
returns-clause-changes g c =
    let m = c.args.map.now in
    let found = subst (λ (m : MapData). AreFromTo {X = Found} (λ s f. IsFoundIn m s f) 0 (sector_count m.sizes) c.in_ok-pieces.pieces.items)
    c.new-work.ensures c.in_ok-pieces.ensures in
    subst (λ xs. IfOk c.joined.result (λ found. found.changes.items ≡ xs))
    (all_changes m (sector_count m.sizes) c.in_ok-pieces.pieces.items found) c.joined.ensures.changes

pub returns-clause-restless : goal.returns-clause-restless
returns-clause-restless g c =
    let m = c.args.map.now in
    let found = subst (λ (m : MapData). AreFromTo {X = Found} (λ s f. IsFoundIn m s f) 0 (sector_count m.sizes) c.in_ok-pieces.pieces.items)
    c.new-work.ensures c.in_ok-pieces.ensures in
    subst (λ xs. IfOk c.joined.result (λ found. found.restless.items ≡ xs))
    (all_pistons m (sector_count m.sizes) c.in_ok-pieces.pieces.items found) c.joined.ensures.restless

pub returns-clause-moves : goal.returns-clause-moves
returns-clause-moves g c =
    let m = c.args.map.now in
    let pieces = c.in_ok-pieces.pieces.items in
    let found = subst (λ (m : MapData). AreFromTo {X = Found} (λ s f. IsFoundIn m s f) 0 (sector_count m.sizes) pieces)
    c.new-work.ensures c.in_ok-pieces.ensures in
    subst (λ given. IfOk c.joined.result (λ found. AreInOrder given found.moves.items))
    (all_moves m (sector_count m.sizes) pieces found) c.joined.ensures.moves
