-- A part is built after a tick as it was before.
use Rattle.std.proofs.Common.{◌≡◌, ℕ, Bool, true, false, ◌&&◌, if◌then◌else◌, nat_eq, refl}
use Rattle.vx_geom.specs.declared.pos.Pos.{Pos}
use Rattle.vx_block.specs.declared.cell.Cell.{Cell}
use Rattle.vx_block.specs.declared.cell.Cell.TheVariants as cell
use Rattle.vx_block.specs.Repeating.{Repeating}
use Rattle.vx_block.specs.Sides.{side_back}
use Rattle.vx_block.specs.States.{side_dir}
use Rattle.vx_power.specs.Signals.{activates}
use Rattle.vx_power.specs.Turning.{built}
use Rattle.vx_part.specs.Laws.{PartsKeepTheirBuild}
use Rattle.vx_part.specs.Parts.{counted, is_locked, next_of, next_on, next_repeater, next_wait, same_bool}

-- a repeater that counts keeps its front and its delay
counting : (r : Repeating) (b : Bool) (wait : ℕ) (on : Bool)
    → built (cell.Repeater (if b then r else record r { wait = wait; on = on })) ≡ built (cell.Repeater r)
counting r true wait on = refl
counting r false wait on = refl

counted_build : (r : Repeating) (input : Bool) → built (cell.Repeater (counted r input)) ≡ built (cell.Repeater r)
counted_build r input = counting r (nat_eq r.wait 0 && same_bool input r.on) (next_wait r) (next_on r input)

locked_or : (r c : Repeating) (b : Bool) → built (cell.Repeater c) ≡ built (cell.Repeater r)
    → built (cell.Repeater (if b then r else c)) ≡ built (cell.Repeater r)
locked_or r c true same = refl
locked_or r c false same = same

module _ (w : Pos → Cell) (level : Pos → ℕ) (p : Pos) where
  repeater_build : (r : Repeating) → built (cell.Repeater (next_repeater w level p r)) ≡ built (cell.Repeater r)
  unfolding next_repeater
  repeater_build r =
      let input = activates w level p (side_dir (side_back r.facing)) in
      locked_or r (counted r input) (is_locked w p r.facing) (counted_build r input)

  next_build : (c : Cell) → built (next_of w level p c) ≡ built c
  unfolding next_of
  next_build (cell.Dust old) = refl
  next_build (cell.Torch facing lit) = refl
  next_build (cell.Lamp old) = refl
  next_build (cell.Repeater r) = repeater_build r
  next_build cell.Air = refl
  next_build cell.Stone = refl
  next_build cell.Dirt = refl
  next_build cell.Planks = refl
  next_build cell.Glass = refl
  next_build cell.Obsidian = refl
  next_build cell.Bedrock = refl
  next_build cell.Chest = refl
  next_build (cell.Lever facing on) = refl
  next_build (cell.Piston facing sticky extended) = refl
  next_build (cell.Head facing sticky) = refl

pub parts_keep_their_build : PartsKeepTheirBuild
parts_keep_their_build w level p = next_build w level p (w p)
