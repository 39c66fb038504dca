-- What was found sector by sector is what a tick finds on the map.
use Rattle.std.proofs.Common.{◌≡◌, ℕ, List, ◌++◌, refl, sym, ap}
use Rattle.std.specs.List.{flat_map}
use Rattle.vx_cells.specs.Maps.{MapData}
use Rattle.vx_tick.specs.declared.found.Found.{Found}
use Rattle.vx_tick.specs.Pieces.{restless_up_to}
use Rattle.vx_step.specs.Shares.{AreFromTo, IsFoundIn}
use Rattle.vx_tick.specs.Ticks.{asked_up_to, changed_up_to}
use Rattle.vx_step.proofs.Joining.{all_bring}

module _ (m : MapData) (n : ℕ) (pieces : List Found)
    (are : AreFromTo {X = Found} (λ k found. IsFoundIn m k found) 0 n pieces) where
  pub all_changes : flat_map (λ (piece : Found). piece.changes.items) pieces ≡ changed_up_to m n
  all_changes =
      all_bring _ (λ (piece : Found). piece.changes.items) (changed_up_to m) n pieces refl
      (λ i found low is. ap (λ ys. changed_up_to m i ++ ys) (sym is.0)) are

  pub all_pistons : flat_map (λ (piece : Found). piece.restless.items) pieces ≡ restless_up_to m n
  all_pistons =
      all_bring _ (λ (piece : Found). piece.restless.items) (restless_up_to m) n pieces refl
      (λ i found low is. ap (λ ys. restless_up_to m i ++ ys) (sym is.1)) are

  pub all_moves : flat_map (λ (piece : Found). piece.moves.items) pieces ≡ asked_up_to m n
  all_moves =
      all_bring _ (λ (piece : Found). piece.moves.items) (asked_up_to m) n pieces refl
      (λ i found low is. ap (λ ys. asked_up_to m i ++ ys) (sym is.2)) are
