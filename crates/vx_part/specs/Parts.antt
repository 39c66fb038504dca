-- What each part is after a tick, by what stands at each position as the tick begins and by the
-- level of each dust.
use Rattle.std.specs.Prelude.{ℕ, ◌-◌, Bool, true, false, not, ◌&&◌, ◌||◌, nat_eq, if◌then◌else◌, None}
use Rattle.vx_geom.specs.declared.pos.Pos.{Pos}
use Rattle.vx_geom.specs.Neighbor.{neighbor}
use Rattle.vx_block.specs.declared.side.Side.{Side}
use Rattle.vx_block.specs.declared.lamp.Lamp.{Lamp}
use Rattle.vx_block.specs.declared.lamp.Lamp.TheVariants as lamp
use Rattle.vx_block.specs.declared.cell.Cell.{Cell}
use Rattle.vx_block.specs.declared.cell.Cell.TheVariants as cell
use Rattle.vx_block.specs.Repeating.{Repeating}
use Rattle.vx_block.specs.Sides.{same_side, side_back, side_right}
use Rattle.vx_block.specs.States.{mount_dir, side_dir, ticks_of}
use Rattle.vx_power.specs.Signals.{is_powered, activates, is_active}

-- a lamp lights at once, and goes out a tick late
abbrev pub next_lamp : Lamp → Bool → Lamp
next_lamp old true = lamp.Lit
next_lamp lamp.Lit false = lamp.Cooling
next_lamp old false = lamp.Off

-- a repeater that is on and faces that side
abbrev pub is_on_towards : Side → Cell → Bool
is_on_towards side (cell.Repeater r) = r.on && same_side r.facing side
is_on_towards side _ = false

-- what stands on that side of p is such a repeater, and faces it
unfoldable pub locks_from : (Pos → Cell) → Pos → Side → Bool
locks_from w p side = is_on_towards (side_back side) (w (neighbor p (side_dir side)))

-- a repeater that faces that way is locked: such a repeater stands at one of its two sides
unfoldable pub is_locked : (Pos → Cell) → Pos → Side → Bool
is_locked w p facing =
    locks_from w p (side_right facing) || locks_from w p (side_back (side_right facing))

-- what is left of a count after this tick: a new count begins where there was none
abbrev pub next_wait : Repeating → ℕ
next_wait r = if nat_eq r.wait 0 then ticks_of r.delay - 1 else r.wait - 1

-- whether a repeater is on after this tick of a count: at its end one that was off goes on, and one
-- that was on follows its input
abbrev pub next_on : Repeating → Bool → Bool
next_on r input = if nat_eq (next_wait r) 0 then not r.on || input else r.on

-- both on, or both off
abbrev pub same_bool : Bool → Bool → Bool
same_bool true b = b
same_bool false b = not b

-- a repeater that is not locked: it rests where it counts nothing and is as its input
abbrev pub counted : Repeating → Bool → Repeating
counted r input =
    if nat_eq r.wait 0 && same_bool input r.on
    then r
    else record r { wait = next_wait r; on = next_on r input }

-- a repeater that is locked stays as it is; the input of another is what stands behind it
unfoldable pub next_repeater : (Pos → Cell) → (Pos → ℕ) → Pos → Repeating → Repeating
next_repeater w level p r =
    if is_locked w p r.facing
    then r
    else counted r (activates w level p (side_dir (side_back r.facing)))

-- what a cell at p is after the tick: dust keeps its level, a torch is lit where its block has no
-- power; what is no part stays
unfoldable pub next_of : (Pos → Cell) → (Pos → ℕ) → Pos → Cell → Cell
next_of w level p (cell.Dust old) = cell.Dust (level p)
next_of w level p (cell.Torch facing lit) =
    cell.Torch facing (not (is_powered w level (neighbor p (mount_dir facing))))
next_of w level p (cell.Lamp old) = cell.Lamp (next_lamp old (is_active w level None p))
next_of w level p (cell.Repeater r) = cell.Repeater (next_repeater w level p r)
next_of w level p other = other

-- what stands at p after the tick, pistons left out
abbrev pub next_part : (Pos → Cell) → (Pos → ℕ) → Pos → Cell
next_part w level p = next_of w level p (w p)
