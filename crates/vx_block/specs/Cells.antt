use Rattle.std.specs.Prelude.{ℕ, true, false, bytes_eq, List, [], ◌∷◌, ◌++◌, map, flat_map, count_by}
use Rattle.vx_geom.specs.declared.dir.Dir.{Dir}
use Rattle.vx_block.specs.Part.{sides, mounts, dirs}
use Rattle.vx_block.specs.Cell.{cell_text, IsCell}
use Rattle.vx_block.specs.declared.side.Side.{Side}
use Rattle.vx_block.specs.declared.mount.Mount.{Mount}
use Rattle.vx_block.specs.declared.delay.Delay.{Delay}
use Rattle.vx_block.specs.declared.delay.Delay.TheVariants as delay
use Rattle.vx_block.specs.declared.lamp.Lamp.TheVariants as lamp
use Rattle.vx_block.specs.declared.cell.Cell.{Cell}
use Rattle.vx_block.specs.declared.cell.Cell.TheVariants.{Air, Stone, Dirt, Planks, Glass, Obsidian, Bedrock, Chest, Dust, Torch, Lever, Repeater, Lamp, Piston, Head}

-- the cells of no facing
abbrev pub unfaced : List Cell
unfaced = Air ∷ Stone ∷ Dirt ∷ Planks ∷ Glass ∷ Obsidian ∷ Bedrock ∷ Chest
    ∷ Lamp lamp.Off ∷ Lamp lamp.Lit ∷ Lamp lamp.Cooling
    ∷ map Dust (0 ∷ 1 ∷ 2 ∷ 3 ∷ 4 ∷ 5 ∷ 6 ∷ 7 ∷ 8 ∷ 9 ∷ 10 ∷ 11 ∷ 12 ∷ 13 ∷ 14 ∷ 15 ∷ [])

-- the cells that face any of the six directions
abbrev pub faced : Dir → List Cell
faced d = Lever d false ∷ Lever d true ∷ Head d false ∷ Head d true
    ∷ Piston d false false ∷ Piston d false true ∷ Piston d true false ∷ Piston d true true ∷ []

-- the torches of a mount
abbrev pub torches : Mount → List Cell
torches m = Torch m false ∷ Torch m true ∷ []

-- what can be left of a count
abbrev pub waits : Delay → List ℕ
waits delay.One = 0 ∷ []
waits delay.Two = 0 ∷ 1 ∷ []
waits delay.Three = 0 ∷ 1 ∷ 2 ∷ []
waits delay.Four = 0 ∷ 1 ∷ 2 ∷ 3 ∷ []

-- the repeaters of a delay with their front on a side
abbrev pub repeaters_of : Side → Delay → List Cell
repeaters_of s d =
    map (λ w. Repeater (record { facing = s; delay = d; on = false; wait = w })) (waits d)
    ++ map (λ w. Repeater (record { facing = s; delay = d; on = true; wait = w })) (waits d)

-- every delay
abbrev pub delays : List Delay
delays = delay.One ∷ delay.Two ∷ delay.Three ∷ delay.Four ∷ []

-- every cell
abbrev pub cells : List Cell
cells = unfaced ++ flat_map faced dirs ++ flat_map torches mounts
    ++ flat_map (λ s. flat_map (repeaters_of s) delays) sides

-- how many of them have the text of a cell
abbrev pub times : Cell → ℕ
times c = count_by (λ d. bytes_eq (cell_text d) (cell_text c)) cells

-- the numbers of all of these are in their ranges
abbrev pub AreCells : List Cell → Type 0
AreCells [] = Unit {0}
AreCells (c ∷ cs) = IsCell c × AreCells cs
