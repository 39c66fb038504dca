-- The cell of each byte of the store.
use Rattle.std.specs.Prelude.{ℕ, ◌-◌, ◌/◌, ◌%◌, ◌==◌, Bool, true, false, nat_lt, if◌then◌else◌}
use Rattle.vx_geom.specs.declared.dir.Dir.{Dir}
use Rattle.vx_geom.specs.declared.dir.Dir.TheVariants as dir
use Rattle.vx_block.specs.declared.side.Side.{Side}
use Rattle.vx_block.specs.declared.side.Side.TheVariants as side
use Rattle.vx_block.specs.declared.mount.Mount.{Mount}
use Rattle.vx_block.specs.declared.mount.Mount.TheVariants as mount
use Rattle.vx_block.specs.declared.delay.Delay.{Delay}
use Rattle.vx_block.specs.declared.delay.Delay.TheVariants as delay
use Rattle.vx_block.specs.declared.lamp.Lamp.{Lamp}
use Rattle.vx_block.specs.declared.lamp.Lamp.TheVariants as lamp
use Rattle.vx_block.specs.Repeating.{Repeating}
use Rattle.vx_block.specs.declared.cell.Cell.{Cell}
use Rattle.vx_block.specs.declared.cell.Cell.TheVariants as cell

-- how many codes there are, one for each cell
abbrev pub code_count : ℕ
code_count = 165

-- the last bit of a code
abbrev pub is_odd : ℕ → Bool
is_odd n = n % 2 == 1

-- the cell without state of that number
abbrev pub plain_at : ℕ → Cell
plain_at n = if n == 0 then cell.Air
    else if n == 1 then cell.Stone
    else if n == 2 then cell.Dirt
    else if n == 3 then cell.Planks
    else if n == 4 then cell.Glass
    else if n == 5 then cell.Obsidian
    else if n == 6 then cell.Bedrock
    else cell.Chest

-- the side of that number
abbrev pub side_at : ℕ → Side
side_at n = if n == 0 then side.East
    else if n == 1 then side.West
    else if n == 2 then side.South
    else side.North

-- the mount of that number
abbrev pub mount_at : ℕ → Mount
mount_at n = if n == 0 then mount.Floor else mount.Wall (side_at (n - 1))

-- the direction of that number
abbrev pub dir_at : ℕ → Dir
dir_at n = if n == 0 then dir.East
    else if n == 1 then dir.West
    else if n == 2 then dir.Up
    else if n == 3 then dir.Down
    else if n == 4 then dir.South
    else dir.North

-- the delay and what is left of a count, together: one pair for a delay of one tick, two for two,
-- and so on
abbrev pub delay_at : ℕ → Delay
delay_at n = if n == 0 then delay.One
    else if nat_lt n 3 then delay.Two
    else if nat_lt n 6 then delay.Three
    else delay.Four

abbrev pub wait_at : ℕ → ℕ
wait_at n = if n == 0 then 0 else if nat_lt n 3 then n - 1 else if nat_lt n 6 then n - 3 else n - 6

-- the repeater of that number
abbrev pub repeater_at : ℕ → Repeating
repeater_at n = record {
  facing = side_at (n / 20);
  delay = delay_at (n / 2 % 10);
  on = is_odd n;
  wait = wait_at (n / 2 % 10);
}

-- the lamp of that number
abbrev pub lamp_at : ℕ → Lamp
lamp_at n = if n == 0 then lamp.Off else if n == 1 then lamp.Lit else lamp.Cooling

-- the cell with state of a code, kind by kind
unfoldable pub cell_with_state : ℕ → Cell
cell_with_state n = if nat_lt n 24 then cell.Dust (n - 8)
    else if nat_lt n 34 then cell.Torch (mount_at ((n - 24) / 2)) (is_odd (n - 24))
    else if nat_lt n 46 then cell.Lever (dir_at ((n - 34) / 2)) (is_odd (n - 34))
    else if nat_lt n 126 then cell.Repeater (repeater_at (n - 46))
    else if nat_lt n 129 then cell.Lamp (lamp_at (n - 126))
    else if nat_lt n 141 then cell.Piston (dir_at ((n - 129) / 2)) false (is_odd (n - 129))
    else if nat_lt n 153 then cell.Piston (dir_at ((n - 141) / 2)) true (is_odd (n - 141))
    else cell.Head (dir_at ((n - 153) / 2)) (is_odd (n - 153))

-- the cell of a code
unfoldable pub cell_of : ℕ → Cell
cell_of n = if nat_lt n 8 then plain_at n else cell_with_state n

-- the cell is a chest
abbrev pub is_chest : Cell → Bool
is_chest cell.Chest = true
is_chest _ = false
