use Rattle.std.specs.Prelude.{Bool, true, false, ◌&&◌, nat_eq}
use Rattle.std.proofs.Math.Bool.{beq}
use Rattle.std.specs.Cmp.Lexicographic.{pointwise}
use Rattle.vx_geom.specs.declared.dir.Dir.{Dir}
use Rattle.vx_geom.specs.declared.dir.Dir.TheVariants.{East, West, Up, Down, South, North}
use Rattle.vx_geom.specs.Sizes.{Sizes}
use Rattle.vx_block.specs.States.{side_dir, mount_dir, ticks_of}
use Rattle.vx_block.specs.Repeating.{Repeating}
use Rattle.vx_block.specs.declared.lamp.Lamp.{Lamp}
use Rattle.vx_block.specs.declared.lamp.Lamp.TheVariants as lamp
use Rattle.vx_block.specs.declared.cell.Cell.{Cell}
use Rattle.vx_block.specs.declared.cell.Cell.TheVariants as cell
use Rattle.vx_store.specs.SameSlots.{same_slots}
use Rattle.vx_cells.specs.SectorCells.{Block, SectorCells}

-- the same direction
unfoldable pub same_dir : Dir → Dir → Bool
same_dir East East = true
same_dir West West = true
same_dir Up Up = true
same_dir Down Down = true
same_dir South South = true
same_dir North North = true
same_dir a b = false

-- the same state of a lamp
unfoldable pub same_lamp : Lamp → Lamp → Bool
same_lamp lamp.Off lamp.Off = true
same_lamp lamp.Lit lamp.Lit = true
same_lamp lamp.Cooling lamp.Cooling = true
same_lamp a b = false

-- the same side, delay, state and rest of a count
unfoldable pub same_repeater : Repeating → Repeating → Bool
same_repeater a b =
    same_dir (side_dir a.facing) (side_dir b.facing) && nat_eq (ticks_of a.delay) (ticks_of b.delay)
    && (beq a.on b.on && nat_eq a.wait b.wait)

-- the same kind of cell, in the same state
unfoldable pub same_cell : Cell → Cell → Bool
same_cell cell.Air cell.Air = true
same_cell cell.Stone cell.Stone = true
same_cell cell.Dirt cell.Dirt = true
same_cell cell.Planks cell.Planks = true
same_cell cell.Glass cell.Glass = true
same_cell cell.Obsidian cell.Obsidian = true
same_cell cell.Bedrock cell.Bedrock = true
same_cell cell.Chest cell.Chest = true
same_cell (cell.Dust a) (cell.Dust b) = nat_eq a b
same_cell (cell.Torch f a) (cell.Torch g b) = same_dir (mount_dir f) (mount_dir g) && beq a b
same_cell (cell.Lever f a) (cell.Lever g b) = same_dir f g && beq a b
same_cell (cell.Repeater a) (cell.Repeater b) = same_repeater a b
same_cell (cell.Lamp a) (cell.Lamp b) = same_lamp a b
same_cell (cell.Piston f s a) (cell.Piston g t b) = same_dir f g && (beq s t && beq a b)
same_cell (cell.Head f s) (cell.Head g t) = same_dir f g && beq s t
same_cell a b = false

-- the same cell, with the same slots
unfoldable pub same_block : Block → Block → Bool
same_block a b = same_cell a.cell b.cell && same_slots a.slots b.slots

-- as many sectors each way, as many chunks, and of one height
unfoldable pub same_sizes : Sizes → Sizes → Bool
same_sizes v w =
    nat_eq v.sx w.sx && (nat_eq v.sz w.sz && (nat_eq v.s w.s && nat_eq v.h w.h))

-- the same sector of worlds of one size, with the same at each place, slots too
unfoldable pub same_cells : SectorCells → SectorCells → Bool
same_cells a b =
    same_sizes a.bounds b.bounds
    && (nat_eq a.sector b.sector && pointwise same_block a.blocks b.blocks)
