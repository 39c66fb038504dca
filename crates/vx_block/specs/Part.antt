use Rattle.std.specs.Prelude.{ℕ, true, false, bytes_eq, List, [], ◌∷◌, ◌++◌, map, find, Option}
use Rattle.vx_base.specs.Digits.{small_word}
use Rattle.vx_geom.specs.declared.dir.Dir.{Dir}
use Rattle.vx_geom.specs.declared.dir.Dir.TheVariants as dir
use Rattle.vx_block.specs.Cut.{joined}
use Rattle.vx_block.specs.Kind.{kind_word}
use Rattle.vx_block.specs.Cell.{kind_of}
use Rattle.vx_block.specs.States.{side_dir, mount_dir, ticks_of, dir_word}
use Rattle.vx_block.specs.declared.side.Side.{Side}
use Rattle.vx_block.specs.declared.side.Side.TheVariants as side
use Rattle.vx_block.specs.declared.mount.Mount.{Mount}
use Rattle.vx_block.specs.declared.mount.Mount.TheVariants as mount
use Rattle.vx_block.specs.declared.delay.Delay.TheVariants as delay
use Rattle.vx_block.specs.declared.lamp.Lamp.TheVariants as lamp
use Rattle.vx_block.specs.declared.cell.Cell.{Cell}
use Rattle.vx_block.specs.declared.cell.Cell.TheVariants as cell
use Rattle.vx_block.specs.declared.part.Part.{Part}
use Rattle.vx_block.specs.declared.part.Part.TheVariants.{Stone, Dirt, Planks, Glass, Obsidian, Bedrock, Chest, Dust, Torch, Lever, Repeater, Lamp, Piston}

-- the cell that a placed part begins as
abbrev pub part_cell : Part → Cell
part_cell Stone = cell.Stone
part_cell Dirt = cell.Dirt
part_cell Planks = cell.Planks
part_cell Glass = cell.Glass
part_cell Obsidian = cell.Obsidian
part_cell Bedrock = cell.Bedrock
part_cell Chest = cell.Chest
part_cell Dust = cell.Dust 0
part_cell (Torch facing) = cell.Torch facing true
part_cell (Lever facing) = cell.Lever facing false
part_cell (Repeater facing delay) =
    cell.Repeater (record { facing = facing; delay = delay; on = false; wait = 0 })
part_cell Lamp = cell.Lamp lamp.Off
part_cell (Piston facing sticky) = cell.Piston facing sticky false

-- the words that tell how a part is placed
abbrev pub part_words : Part → List (List ℕ)
part_words (Torch facing) = dir_word (mount_dir facing) ∷ []
part_words (Lever facing) = dir_word facing ∷ []
part_words (Repeater facing delay) = dir_word (side_dir facing) ∷ small_word (ticks_of delay) ∷ []
part_words (Piston facing sticky) = dir_word facing ∷ []
part_words _ = []

-- the text of a part: the word of its kind, and those that tell how it is placed
abbrev pub part_text : Part → List ℕ
part_text p = joined (kind_word (kind_of (part_cell p))) (part_words p)

-- every side, mount, direction and delay
abbrev pub sides : List Side
sides = side.East ∷ side.West ∷ side.South ∷ side.North ∷ []

abbrev pub mounts : List Mount
mounts = mount.Floor ∷ map mount.Wall sides

abbrev pub dirs : List Dir
dirs = dir.East ∷ dir.West ∷ dir.Up ∷ dir.Down ∷ dir.South ∷ dir.North ∷ []

-- the repeaters that can be placed with their front on a side
abbrev pub repeaters : Side → List Part
repeaters s =
    Repeater s delay.One ∷ Repeater s delay.Two
    ∷ Repeater s delay.Three ∷ Repeater s delay.Four ∷ []

-- every part
abbrev pub parts : List Part
parts = Stone ∷ Dirt ∷ Planks ∷ Glass ∷ Obsidian ∷ Bedrock ∷ Chest ∷ Dust ∷ Lamp
    ∷ map Torch mounts ++ map Lever dirs
    ++ map (λ f. Piston f false) dirs ++ map (λ f. Piston f true) dirs
    ++ repeaters side.East ++ repeaters side.West ++ repeaters side.South ++ repeaters side.North

-- the part that has this text
unfoldable pub part_of : List ℕ → Option Part
part_of text = find (λ p. bytes_eq (part_text p) text) parts
