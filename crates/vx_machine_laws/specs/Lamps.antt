-- Lamps, and the parts that a tick leaves as they are.
use Rattle.std.specs.Prelude.{◌≡◌, ℕ, Bool, true, false, None}
use Rattle.vx_geom.specs.declared.pos.Pos.{Pos}
use Rattle.vx_geom.specs.declared.dir.Dir.{Dir}
use Rattle.vx_block.specs.declared.lamp.Lamp.{Lamp}
use Rattle.vx_block.specs.declared.lamp.Lamp.TheVariants.{Off, Lit, Cooling}
use Rattle.vx_block.specs.declared.cell.Cell.{Cell}
use Rattle.vx_block.specs.declared.cell.Cell.TheVariants as cell
use Rattle.vx_power.specs.Signals.{is_active}
use Rattle.vx_part.specs.Parts.{next_part}

-- a lamp that is active is lit after the tick, whatever it was
abbrev pub LampsLight : Type 0
LampsLight = (w : Pos → Cell) (level : Pos → ℕ) (p : Pos) (was : Lamp)
    → w p ≡ cell.Lamp was → is_active w level None p ≡ true
    → next_part w level p ≡ cell.Lamp Lit

-- what a lamp without power is after a tick
abbrev pub after_a_tick : Lamp → Lamp
after_a_tick Lit = Cooling
after_a_tick Cooling = Off
after_a_tick Off = Off

-- one that is not active stays lit for one tick if it was lit, and then is off and stays off
abbrev pub LampsGoOut : Type 0
LampsGoOut = (w : Pos → Cell) (level : Pos → ℕ) (p : Pos) (was : Lamp)
    → w p ≡ cell.Lamp was → is_active w level None p ≡ false
    → next_part w level p ≡ cell.Lamp (after_a_tick was)

-- levers and pistons are no other after a tick, but for the moves of pistons
abbrev pub LeversStay : Type 0
LeversStay = (w : Pos → Cell) (level : Pos → ℕ) (p : Pos) (mounted : Dir) (on : Bool)
    → w p ≡ cell.Lever mounted on → next_part w level p ≡ w p

abbrev pub PistonsStay : Type 0
PistonsStay = (w : Pos → Cell) (level : Pos → ℕ) (p : Pos) (front : Dir) (sticky out : Bool)
    → w p ≡ cell.Piston front sticky out → next_part w level p ≡ w p
