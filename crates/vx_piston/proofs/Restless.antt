-- Which pistons are restless: how far that reads, and that no other moves.
use Rattle.std.proofs.Common.{◌≡◌, ℕ, Bool, true, false, not, Some, None, if◌then◌else◌, refl, sym, ap, ◌∙◌}
use Rattle.vx_block.specs.declared.cell.Cell.{Cell}
use Rattle.vx_block.specs.declared.cell.Cell.TheVariants.{Piston}
use Rattle.vx_cells.specs.Maps.{MapData, cell_on}
use Rattle.vx_geom.specs.declared.pos.Pos.{Pos}
use Rattle.vx_power.specs.Laws.{dust_level}
use Rattle.vx_power.specs.Local.{within_steps, AreLevelsNear}
use Rattle.vx_power.specs.Signals.{is_active}
use Rattle.vx_power.specs.Turning.{BuiltAlike, ShowHeeded, PowerHeeded}
use Rattle.vx_power.proofs.Local.{activity_heeds, activity_by}
use Rattle.vx_piston.specs.Laws.{RestlessHeeds, OthersStay}
use Rattle.vx_piston.specs.Moves.{pushing, drawing, move_of, candidate, restless_as, is_restless}

module _ (w v : Pos → Cell) (a b : Pos → ℕ) (p : Pos) (cells : BuiltAlike (within_steps 4 p) w v)
    (shows : ShowHeeded w v p) (powers : PowerHeeded w a b p) where
  heeds_as : (c : Cell) → restless_as w a p c ≡ restless_as v b p c
  heeds_as (Piston d sticky false) = activity_heeds w v a b (Some d) p cells shows powers
  heeds_as (Piston d sticky true) = ap not (activity_heeds w v a b (Some d) p cells shows powers)
  heeds_as _ = refl

pub restless_heeds : RestlessHeeds
unfolding is_restless
restless_heeds w v a b p cells own shows powers =
    ap (restless_as w a p) own ∙ heeds_as w v a b p cells shows powers (v p)

stays : (b : Bool) → not b ≡ false → b ≡ true
stays true is = refl
stays false is = sym is

module _ (m : MapData) (level : Pos → ℕ) (p : Pos) where
  unmoved : (c : Cell) → restless_as (cell_on m) level p c ≡ false → move_of m level p c ≡ None
  unmoved (Piston d sticky false) is = ap (λ b. if b then pushing m d p else None) is
  unmoved (Piston d sticky true) is =
      ap (λ b. if b then None else Some (drawing m d sticky p))
      (stays (is_active (cell_on m) level (Some d) p) is)
  unmoved _ is = refl

pub others_stay : OthersStay
unfolding is_restless candidate
others_stay m level p is = unmoved m level p (cell_on m p) is

-- a move by the levels near its piston is that by the levels of the map
module _ (m : MapData) (level : Pos → ℕ) (p : Pos) (near : AreLevelsNear (cell_on m) 2 p level) where
  move_by : (c : Cell) → move_of m level p c ≡ move_of m (dust_level (cell_on m)) p c
  move_by (Piston d sticky false) =
      ap (λ b. if b then pushing m d p else None) (activity_by (cell_on m) level (Some d) p near)
  move_by (Piston d sticky true) =
      ap (λ b. if b then None else Some (drawing m d sticky p))
      (activity_by (cell_on m) level (Some d) p near)
  move_by _ = refl

  pub candidate_by : candidate m level p ≡ candidate m (dust_level (cell_on m)) p
  unfolding candidate
  candidate_by = move_by (cell_on m p)
