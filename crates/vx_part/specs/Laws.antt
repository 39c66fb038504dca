use Rattle.std.specs.Prelude.{◌≡◌, ℕ, zero, suc, ◌<◌, Bool, true, false, List}
use Rattle.vx_geom.specs.declared.pos.Pos.{Pos}
use Rattle.vx_geom.specs.Neighbor.{neighbor}
use Rattle.vx_block.specs.declared.cell.Cell.{Cell}
use Rattle.vx_block.specs.declared.cell.Cell.TheVariants as cell
use Rattle.vx_block.specs.declared.mount.Mount.{Mount}
use Rattle.vx_block.specs.declared.lamp.Lamp.TheVariants as lamp
use Rattle.vx_block.specs.Components.{is_component, is_dust}
use Rattle.vx_block.specs.Repeating.{Repeating}
use Rattle.vx_block.specs.States.{mount_dir, ticks_of}
use Rattle.vx_power.specs.Local.{within_steps, sees, AreAlike, ShowAlike}
use Rattle.vx_power.specs.Signals.{is_powered}
use Rattle.vx_power.specs.Turning.{built, BuiltAlike, ShowHeeded, PowerHeeded}
use Rattle.vx_part.specs.Parts.{is_locked, counted, next_lamp, next_part}

-- dust keeps its level
abbrev pub DustKeepsItsLevel : Type 0
DustKeepsItsLevel = (w : Pos → Cell) (level : Pos → ℕ) (p : Pos) (old : ℕ)
    → w p ≡ cell.Dust old → next_part w level p ≡ cell.Dust (level p)

-- a torch is off in the tick after its block is powered, and lit in the tick after it is not
abbrev pub TorchesInvert : Type 0
TorchesInvert = (w : Pos → Cell) (level : Pos → ℕ) (p : Pos) (facing : Mount) (lit : Bool)
    → w p ≡ cell.Torch facing lit
    → (is_powered w level (neighbor p (mount_dir facing)) ≡ true
    → next_part w level p ≡ cell.Torch facing false)
    × (is_powered w level (neighbor p (mount_dir facing)) ≡ false
    → next_part w level p ≡ cell.Torch facing true)

-- a locked repeater stays as it is
abbrev pub LockedRepeatersStay : Type 0
LockedRepeatersStay = (w : Pos → Cell) (level : Pos → ℕ) (p : Pos) (r : Repeating)
    → w p ≡ cell.Repeater r → is_locked w p r.facing ≡ true → next_part w level p ≡ w p

-- a repeater after so many ticks in which nothing locks it and its input stays the same
abbrev pub counted_for : ℕ → Repeating → Bool → Repeating
counted_for zero r input = r
counted_for (suc n) r input = counted (counted_for n r input) input

-- a repeater at rest follows an input that stays the same after the ticks of its delay, and not
-- before
abbrev pub RepeatersDelay : Type 0
RepeatersDelay = (r : Repeating) (input : Bool)
    → r.wait ≡ 0
    → (counted_for (ticks_of r.delay) r input ≡ record r { on = input })
    × ((n : ℕ) → n < ticks_of r.delay → (counted_for n r input).on ≡ r.on)

-- a lamp that loses its power stays lit for one tick more, and one that gets it lights at once
abbrev pub LampsGoOutLate : Type 0
LampsGoOutLate =
    (next_lamp lamp.Lit false ≡ lamp.Cooling) × (next_lamp lamp.Cooling false ≡ lamp.Off)
    × (next_lamp lamp.Off true ≡ lamp.Lit)

-- the cells that decide what stands at p after a tick
abbrev pub reads : Pos → List Pos
reads p = within_steps 4 p

-- these cells and the levels nearby decide it, and nothing else does
abbrev pub PartsRead : Type 0
PartsRead = (w v : Pos → Cell) (a b : Pos → ℕ) (p : Pos)
    → AreAlike (reads p) w v → AreAlike (sees p) a b → next_part w a p ≡ next_part v b p

-- of the other cells it is decided by what they show alone
abbrev pub PartsReadShown : Type 0
PartsReadShown = (w v : Pos → Cell) (a b : Pos → ℕ) (p : Pos)
    → ShowAlike (reads p) w v → w p ≡ v p → AreAlike (sees p) a b
    → next_part w a p ≡ next_part v b p

-- or by how they are built, and of those that it heeds by what they show, and by which dust has power;
-- dust heeds its own level besides
abbrev pub PartsHeed : Type 0
PartsHeed = (w v : Pos → Cell) (a b : Pos → ℕ) (p : Pos)
    → BuiltAlike (reads p) w v → w p ≡ v p → ShowHeeded w v p → PowerHeeded w a b p
    → (is_dust (w p) ≡ true → a p ≡ b p) → next_part w a p ≡ next_part v b p

-- and it is built as what stood there
abbrev pub PartsKeepTheirBuild : Type 0
PartsKeepTheirBuild = (w : Pos → Cell) (level : Pos → ℕ) (p : Pos)
    → built (next_part w level p) ≡ built (w p)

-- what is no component stays
abbrev pub OthersStay : Type 0
OthersStay = (w : Pos → Cell) (level : Pos → ℕ) (p : Pos)
    → is_component (w p) ≡ false → next_part w level p ≡ w p
