-- What feeds power, and what takes it. Each takes what stands at each position.
use Rattle.std.specs.Prelude.{ℕ, Bool, true, false, not, ◌&&◌, ◌||◌, nat_lt, Option, Some, None}
use Rattle.std.specs.List.{list_any}
use Rattle.vx_geom.specs.declared.pos.Pos.{Pos}
use Rattle.vx_geom.specs.declared.dir.Dir.{Dir}
use Rattle.vx_geom.specs.declared.dir.Dir.TheVariants.{East, West, Up, Down, South, North}
use Rattle.vx_geom.specs.Dirs.{all_dirs, opposite, same_dir}
use Rattle.vx_geom.specs.Neighbor.{neighbor}
use Rattle.vx_block.specs.declared.side.Side.TheVariants as side
use Rattle.vx_block.specs.declared.cell.Cell.{Cell}
use Rattle.vx_block.specs.declared.cell.Cell.TheVariants.{Torch, Lever, Repeater}
use Rattle.vx_block.specs.Components.{is_dust}
use Rattle.vx_block.specs.Conductors.{conducts}
use Rattle.vx_block.specs.States.{mount_dir, side_dir}
use Rattle.vx_power.specs.Dust.{points}

-- a cell gives power to its neighbor in that direction: a lit torch to each but the block that it
-- is mounted on, a lever that is on to each, a repeater that is on to the one at its front
abbrev pub gives : Cell → Dir → Bool
gives (Torch facing lit) d = lit && not (same_dir (mount_dir facing) d)
gives (Lever facing on) d = on
gives (Repeater r) d = r.on && same_dir (side_dir r.facing) d
gives _ d = false

-- a cell drives a conductor that is its neighbor in that direction: a lit torch the one over it, a
-- lever that is on the one that it is mounted on, a repeater that is on the one at its front
abbrev pub drives : Cell → Dir → Bool
drives (Torch facing lit) d = lit && same_dir d Up
drives (Lever facing on) d = on && same_dir facing d
drives (Repeater r) d = r.on && same_dir (side_dir r.facing) d
drives _ d = false

-- the neighbor in that direction drives what stands at p
unfoldable pub drives_from : (Pos → Cell) → Pos → Dir → Bool
drives_from w p d = drives (w (neighbor p d)) (opposite d)

-- some neighbor does
unfoldable pub is_driven : (Pos → Cell) → Pos → Bool
is_driven w p = list_any (drives_from w p) all_dirs

-- a conductor is strongly powered where some neighbor drives it
unfoldable pub is_strong : (Pos → Cell) → Pos → Bool
is_strong w p = conducts (w p) && is_driven w p

-- the neighbor in that direction feeds dust at p: it gives to it, or is a strongly powered
-- conductor
unfoldable pub feeds_from : (Pos → Cell) → Pos → Dir → Bool
feeds_from w p d = gives (w (neighbor p d)) (opposite d) || is_strong w (neighbor p d)

-- some neighbor feeds dust at p
unfoldable pub has_feeder : (Pos → Cell) → Pos → Bool
has_feeder w p = list_any (feeds_from w p) all_dirs

-- dust is fed where some neighbor feeds it
unfoldable pub is_fed : (Pos → Cell) → Pos → Bool
is_fed w p = is_dust (w p) && has_feeder w p

-- dust at n reaches the cell from which it lies in direction d: it lies on it, or stands beside it
-- and points at it
abbrev pub reaches : (Pos → Cell) → Pos → Dir → Bool
reaches w n Up = true
reaches w n Down = false
reaches w n East = points w n side.West
reaches w n West = points w n side.East
reaches w n South = points w n side.North
reaches w n North = points w n side.South

-- dust of a level over 0 reaches p from that direction
unfoldable pub dust_powers : (Pos → Cell) → (Pos → ℕ) → Pos → Dir → Bool
dust_powers w level p d =
    is_dust (w (neighbor p d)) && nat_lt 0 (level (neighbor p d)) && reaches w (neighbor p d) d

-- it does from some direction
unfoldable pub is_dust_powered : (Pos → Cell) → (Pos → ℕ) → Pos → Bool
is_dust_powered w level p = list_any (dust_powers w level p) all_dirs

-- the neighbor in that direction drives what stands at p, or is dust that powers it
unfoldable pub is_source : (Pos → Cell) → (Pos → ℕ) → Pos → Dir → Bool
is_source w level p d = drives_from w p d || dust_powers w level p d

-- some neighbor does
unfoldable pub has_source : (Pos → Cell) → (Pos → ℕ) → Pos → Bool
has_source w level p = list_any (is_source w level p) all_dirs

-- a conductor is powered where it is strongly powered, or dust of a level over 0 reaches it
unfoldable pub is_powered : (Pos → Cell) → (Pos → ℕ) → Pos → Bool
is_powered w level p = conducts (w p) && (is_driven w p || is_dust_powered w level p)

-- what stands in that direction from p makes a lamp, a piston or a repeater there active: it gives
-- to it, is a powered conductor, or is dust of a level over 0 that reaches it
unfoldable pub activates : (Pos → Cell) → (Pos → ℕ) → Pos → Dir → Bool
activates w level p d =
    gives (w (neighbor p d)) (opposite d)
    || is_powered w level (neighbor p d)
    || dust_powers w level p d

-- the direction is that of a front, if there is one
abbrev pub is_front : Option Dir → Dir → Bool
is_front None d = false
is_front (Some front) d = same_dir front d

-- a lamp or a piston at p is active; a piston is not made so from its front
unfoldable pub is_active : (Pos → Cell) → (Pos → ℕ) → Option Dir → Pos → Bool
is_active w level front p = list_any (λ d. not (is_front front d) && activates w level p d) all_dirs
