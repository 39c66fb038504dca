-- Repeaters: what locks them, what they follow, and how they count.
use Rattle.std.specs.Prelude.{◌≡◌, ℕ, ◌+◌, ◌-◌, ◌<◌, Bool, true, false, List, [], ◌∷◌, ◌++◌, length}
use Rattle.vx_geom.specs.declared.pos.Pos.{Pos}
use Rattle.vx_geom.specs.Neighbor.{neighbor}
use Rattle.vx_block.specs.declared.side.Side.{Side}
use Rattle.vx_block.specs.declared.cell.Cell.{Cell}
use Rattle.vx_block.specs.declared.cell.Cell.TheVariants.{Repeater}
use Rattle.vx_block.specs.Repeating.{Repeating}
use Rattle.vx_block.specs.Sides.{side_back}
use Rattle.vx_block.specs.States.{side_dir, ticks_of}
use Rattle.vx_part.specs.Parts.{is_locked, counted, next_part}
use Rattle.vx_machine_laws.specs.Exactly.{Exactly}
use Rattle.vx_machine_laws.specs.Signals.{Activates}

-- a repeater that faces p stands at q
abbrev pub RepeaterFacing : (Pos → Cell) → Pos → Pos → Repeating → Type 0
RepeaterFacing w q p r = (w q ≡ Repeater r) × (neighbor q (side_dir r.facing) ≡ p)

-- it stands on that side of p, and is on
abbrev pub LocksFrom : (Pos → Cell) → Pos → Side → Type 0
LocksFrom w p side = (r : Repeating)
    × RepeaterFacing w (neighbor p (side_dir side)) p r × (r.on ≡ true)

-- one of the two sides of what faces that way: neither its front nor its back
abbrev pub IsAcross : Side → Side → Type 0
IsAcross facing side = (side ≡ facing → ⊥) × (side ≡ side_back facing → ⊥)

-- a repeater is locked exactly where a repeater that is on stands at one of its two sides and faces
-- it
abbrev pub LockedAreThese : Type 0
LockedAreThese = (w : Pos → Cell) (p : Pos) (facing : Side)
    → Exactly (is_locked w p facing) ((side : Side) × IsAcross facing side × LocksFrom w p side)

-- repeaters at its sides that are off, or that face elsewhere, do not lock it
abbrev pub OthersDoNotLock : Type 0
OthersDoNotLock = (w : Pos → Cell) (p : Pos) (facing : Side)
    → ((side : Side) (r : Repeating) → IsAcross facing side
    → RepeaterFacing w (neighbor p (side_dir side)) p r → r.on ≡ false)
    → is_locked w p facing ≡ false

-- one that is not locked counts by its input, which is on exactly where what stands behind it makes
-- it active
abbrev pub UnlockedFollow : Type 0
UnlockedFollow = (w : Pos → Cell) (level : Pos → ℕ) (p : Pos) (r : Repeating) (input : Bool)
    → w p ≡ Repeater r → is_locked w p r.facing ≡ false
    → Exactly input (Activates w level p (side_dir (side_back r.facing)))
    → next_part w level p ≡ Repeater (counted r input)

-- a repeater after ticks in which nothing locks it, and in which these are its inputs
abbrev pub counted_by : List Bool → Repeating → Repeating
counted_by [] r = r
counted_by (input ∷ inputs) r = counted_by inputs (counted r input)

-- one that counts nothing and is as its input rests
abbrev pub AtRestStays : Type 0
AtRestStays = (r : Repeating) → r.wait ≡ 0 → counted r r.on ≡ r

-- one that counts nothing and is not as its input begins a count of its delay, and ends it at once
-- where that is one tick
pub record CountBegins (r : Repeating) (input : Bool) : Type 0 where
  pub at_once : ticks_of r.delay ≡ 1 → counted r input ≡ record r { on = input }
  pub later : 1 < ticks_of r.delay → counted r input ≡ record r { wait = ticks_of r.delay - 1 }

abbrev pub CountsBegin : Type 0
CountsBegin = (r : Repeating) (input : Bool)
    → r.wait ≡ 0 → (input ≡ r.on → ⊥) → CountBegins r input

-- a count goes on by one each tick, whatever the input does, and the repeater stays as it is
abbrev pub CountsGoOn : Type 0
CountsGoOn = (r : Repeating) (inputs : List Bool)
    → length inputs < r.wait → counted_by inputs r ≡ record r { wait = r.wait - length inputs }

-- at the end of its count one that was off goes on, whatever its inputs were
abbrev pub CountsEndOn : Type 0
CountsEndOn = (r : Repeating) (inputs : List Bool)
    → r.on ≡ false → 0 < r.wait → length inputs ≡ r.wait
    → counted_by inputs r ≡ record r { on = true; wait = 0 }

-- and one that was on is as its input at the last tick
abbrev pub CountsEndAsInput : Type 0
CountsEndAsInput = (r : Repeating) (inputs : List Bool) (last : Bool)
    → r.on ≡ true → length inputs + 1 ≡ r.wait
    → counted_by (inputs ++ last ∷ []) r ≡ record r { on = last; wait = 0 }

-- so the shortest pulse goes through: one that rests off is on after the ticks of its delay, though
-- its input was on in the first of them alone
abbrev pub PulsesGoThrough : Type 0
PulsesGoThrough = (r : Repeating) (inputs : List Bool)
    → r.on ≡ false → r.wait ≡ 0 → length inputs + 1 ≡ ticks_of r.delay
    → counted_by (true ∷ inputs) r ≡ record r { on = true }
