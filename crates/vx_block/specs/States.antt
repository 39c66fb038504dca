-- The words that tell the state of a cell, or how a part is placed.
use Rattle.std.specs.Prelude.{ℕ, Bool, true, false, codes, List, [], ◌∷◌}
use Rattle.vx_geom.specs.declared.dir.Dir.{Dir}
use Rattle.vx_geom.specs.declared.dir.Dir.TheVariants as dir
use Rattle.vx_block.specs.declared.side.Side.{Side}
use Rattle.vx_block.specs.declared.side.Side.TheVariants as side
use Rattle.vx_block.specs.declared.mount.Mount.{Mount}
use Rattle.vx_block.specs.declared.mount.Mount.TheVariants as mount
use Rattle.vx_block.specs.declared.delay.Delay.{Delay}
use Rattle.vx_block.specs.declared.delay.Delay.TheVariants as delay
use Rattle.vx_block.specs.declared.lamp.Lamp.{Lamp}
use Rattle.vx_block.specs.declared.lamp.Lamp.TheVariants as lamp

-- the direction of a side
abbrev pub side_dir : Side → Dir
side_dir side.East = dir.East
side_dir side.West = dir.West
side_dir side.South = dir.South
side_dir side.North = dir.North

-- the direction from a torch to the block that it stands on or hangs on
abbrev pub mount_dir : Mount → Dir
mount_dir mount.Floor = dir.Down
mount_dir (mount.Wall s) = side_dir s

-- how many ticks a delay has
abbrev pub ticks_of : Delay → ℕ
ticks_of delay.One = 1
ticks_of delay.Two = 2
ticks_of delay.Three = 3
ticks_of delay.Four = 4

-- the word of a direction
abbrev pub dir_word : Dir → List ℕ
dir_word dir.East = codes "east"
dir_word dir.West = codes "west"
dir_word dir.Up = codes "up"
dir_word dir.Down = codes "down"
dir_word dir.South = codes "south"
dir_word dir.North = codes "north"

-- the word of what is on or off
abbrev pub on_word : Bool → List ℕ
on_word true = codes "on"
on_word false = codes "off"

-- the word of a piston that is out or in
abbrev pub out_word : Bool → List ℕ
out_word true = codes "out"
out_word false = codes "in"

-- the word of a piston's head, sticky or plain
abbrev pub grip_word : Bool → List ℕ
grip_word true = codes "sticky"
grip_word false = codes "plain"

-- the words of a lamp: whether it is lit, and how long it has been lit without power
abbrev pub lamp_words : Lamp → List (List ℕ)
lamp_words lamp.Off = codes "off" ∷ codes "0" ∷ []
lamp_words lamp.Lit = codes "on" ∷ codes "0" ∷ []
lamp_words lamp.Cooling = codes "on" ∷ codes "1" ∷ []
