-- The two moves that a piston may make.
use Rattle.std.proofs.Common.{◌≡◌, ℕ, Bool, true, false, Option, Some, None, if◌then◌else◌, refl}
use Rattle.std.specs.Option.{IfSome}
use Rattle.vx_block.specs.declared.cell.Cell.{Cell}
use Rattle.vx_block.specs.declared.cell.Cell.TheVariants.{Piston}
use Rattle.vx_cells.specs.Maps.{MapData, cell_on}
use Rattle.vx_geom.specs.declared.dir.Dir.{Dir}
use Rattle.vx_geom.specs.declared.pos.Pos.{Pos}
use Rattle.vx_geom.specs.Sizes.{is_inside}
use Rattle.vx_power.specs.Signals.{is_active}
use Rattle.vx_piston.specs.Moves.{Moving, pushing, drawing, move_of, candidate}
use Rattle.vx_piston.proofs.Ends.{piston_inside}

module _ (m : MapData) (level : Pos → ℕ) (p : Pos) (P : Moving → Type 0)
    (pushes : (d : Dir) → is_inside m.sizes p ≡ true → IfSome (pushing m d p) P)
    (draws : (d : Dir) (sticky : Bool) → is_inside m.sizes p ≡ true → P (drawing m d sticky p)) where
  -- a push of an active piston
  if_active : (b : Bool) (o : Option Moving) → IfSome o P → IfSome (if b then o else None) P
  if_active true o is = is
  if_active false o is = tt

  -- a draw of one that is not
  unless_active : (b : Bool) (o : Option Moving) → IfSome o P → IfSome (if b then None else o) P
  unless_active true o is = tt
  unless_active false o is = is

  -- what stands there decides
  by_cell : (cell : Cell) → cell ≡ cell_on m p → IfSome (move_of m level p cell) P
  by_cell (Piston d sticky false) stands =
      if_active (is_active (cell_on m) level (Some d) p) (pushing m d p)
      (pushes d (piston_inside m p d sticky false stands))
  by_cell (Piston d sticky true) stands =
      unless_active (is_active (cell_on m) level (Some d) p) (Some (drawing m d sticky p))
      (draws d sticky (piston_inside m p d sticky true stands))
  by_cell _ stands = tt

  -- what holds of each push and of each draw holds of what a piston would do
  pub each_candidate : IfSome (candidate m level p) P
  unfolding candidate
  each_candidate = by_cell (cell_on m p) refl
