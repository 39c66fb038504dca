use Rattle.std.specs.Prelude.{false}
use Rattle.vx_block.specs.declared.cell.Cell.{Cell}
use Rattle.vx_block.specs.declared.cell.Cell.TheVariants as cell
use Rattle.vx_block.specs.declared.mobility.Mobility.{Mobility}
use Rattle.vx_block.specs.declared.mobility.Mobility.TheVariants.{Empty, Moves, Breaks, Stays}

-- what a cell does in the way of a piston
abbrev pub mobility_of : Cell → Mobility
mobility_of cell.Air = Empty
mobility_of cell.Stone = Moves
mobility_of cell.Dirt = Moves
mobility_of cell.Planks = Moves
mobility_of cell.Glass = Moves
mobility_of (cell.Lamp lamp) = Moves
mobility_of (cell.Piston facing sticky false) = Moves
mobility_of (cell.Dust level) = Breaks
mobility_of (cell.Torch facing lit) = Breaks
mobility_of (cell.Lever facing on) = Breaks
mobility_of (cell.Repeater r) = Breaks
mobility_of _ = Stays
