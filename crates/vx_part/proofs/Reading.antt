-- How far a part reads, and what that means for levels that are told near a sector.
use Rattle.std.proofs.Common.{◌≡◌, ℕ, true, not, ◌||◌, if◌then◌else◌, None, refl, ap, ◌∙◌}
use Rattle.vx_geom.specs.declared.pos.Pos.{Pos}
use Rattle.vx_geom.specs.Neighbor.{neighbor}
use Rattle.vx_block.specs.declared.side.Side.{Side}
use Rattle.vx_block.specs.declared.cell.Cell.{Cell}
use Rattle.vx_block.specs.declared.cell.Cell.TheVariants as cell
use Rattle.vx_block.specs.Components.{is_dust}
use Rattle.vx_block.specs.Repeating.{Repeating}
use Rattle.vx_block.specs.Sides.{side_back, side_right}
use Rattle.vx_block.specs.States.{mount_dir, side_dir}
use Rattle.vx_power.specs.Laws.{dust_level}
use Rattle.vx_power.specs.Local.{shown, AreLevelsNear}
use Rattle.vx_power.specs.Turning.{ShowHeeded, PowerHeeded}
use Rattle.vx_power.proofs.Local.{Builds, builds, builds_from, each_near, power_near, near_from, shows_from, here, is_powered_same, activates_same, is_active_same}
use Rattle.vx_power.proofs.Showing.{same_told}
use Rattle.vx_part.specs.Laws.{PartsHeed, PartsRead, PartsReadShown}
use Rattle.vx_part.specs.Parts.{next_lamp, is_on_towards, locks_from, is_locked, counted, next_repeater, next_of, next_part}

-- a repeater that is on is so whatever it counts
same_lock : (side : Side) (c d : Cell) → shown c ≡ shown d → is_on_towards side c ≡ is_on_towards side d
same_lock side = same_told (is_on_towards side) (λ level. refl) (λ state. refl) (λ r. refl)

module _ (w v : Pos → Cell) (a b : Pos → ℕ) (p : Pos) (cells : Builds 4 p w v) (shows : ShowHeeded w v p)
    (powers : PowerHeeded w a b p) where
  locks_same : (s : Side) → locks_from w p s ≡ locks_from v p s
  unfolding locks_from
  locks_same s =
      let q = neighbor p (side_dir s) in
      same_lock (side_back s) (w q) (v q) (shows.beside (side_dir s))

  locked_same : (facing : Side) → is_locked w p facing ≡ is_locked v p facing
  unfolding is_locked
  locked_same facing = λ i. locks_same (side_right facing) i || locks_same (side_back (side_right facing)) i

  repeater_same : (r : Repeating) → next_repeater w a p r ≡ next_repeater v b p r
  unfolding next_repeater
  repeater_same r = λ i.
      if locked_same r.facing i
      then r
      else counted r (activates_same w v a b p (side_dir (side_back r.facing)) cells shows powers i)

  next_same : (c : Cell) → (is_dust c ≡ true → a p ≡ b p) → next_of w a p c ≡ next_of v b p c
  unfolding next_of
  next_same (cell.Dust old) level = λ i. cell.Dust (level refl i)
  next_same (cell.Torch facing lit) level =
      let d = mount_dir facing in λ i.
      cell.Torch facing (not (is_powered_same w v a b (neighbor p d) (cells.1 d)
      (λ is e. shows.through d e is) (λ is e. powers.through d e is) i))
  next_same (cell.Lamp old) level = λ i. cell.Lamp (next_lamp old (is_active_same w v a b None p cells shows powers i))
  next_same (cell.Repeater r) level = λ i. cell.Repeater (repeater_same r i)
  next_same cell.Air level = refl
  next_same cell.Stone level = refl
  next_same cell.Dirt level = refl
  next_same cell.Planks level = refl
  next_same cell.Glass level = refl
  next_same cell.Obsidian level = refl
  next_same cell.Bedrock level = refl
  next_same cell.Chest level = refl
  next_same (cell.Lever facing on) level = refl
  next_same (cell.Piston facing sticky extended) level = refl
  next_same (cell.Head facing sticky) level = refl

  -- one cell among cells that are built alike has one next part, where what it heeds is the same
  pub part_same : w p ≡ v p → (is_dust (w p) ≡ true → a p ≡ b p) → next_part w a p ≡ next_part v b p
  part_same own level = ap (next_of w a p) own ∙ next_same (v p) (λ dust. level (ap is_dust own ∙ dust))

pub parts_heed : PartsHeed
parts_heed w v a b p cells own shows powers level =
    part_same w v a b p (builds_from w v 4 p cells) shows powers own level

pub parts_read_shown : PartsReadShown
parts_read_shown w v a b p cells own levels =
    let near = shows_from w v 4 p cells in
    let same = near_from a b 2 p levels in
    part_same w v a b p (builds w v 4 p near) (each_near w (λ q. shown (w q)) (λ q. shown (v q)) p near.0.0)
    (power_near w a b p same) own (λ dust. here a b 2 p same)

pub parts_read : PartsRead
parts_read w v a b p cells levels =
    parts_read_shown w v a b p (λ q among. ap shown (cells q among)) (here w v 4 p (near_from w v 4 p cells)) levels

-- a part by the levels near it is that by the levels of the map
pub part_by : (w : Pos → Cell) (level : Pos → ℕ) (p : Pos) → AreLevelsNear w 2 p level
    → next_part w level p ≡ next_part w (dust_level w) p
unfolding AreLevelsNear
part_by w level p near = parts_read w w level (dust_level w) p (λ q among. refl) near
