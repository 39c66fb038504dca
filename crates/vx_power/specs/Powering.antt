-- Cells that power others.
use Rattle.std.specs.Prelude.{Bool, false}
use Rattle.vx_block.specs.declared.cell.Cell.{Cell}
use Rattle.vx_block.specs.declared.cell.Cell.TheVariants.{Torch, Lever, Repeater}

-- a cell gives power or drives a conductor in some direction: a torch that is lit does, and a lever
-- and a repeater that are on
abbrev pub powers : Cell → Bool
powers (Torch facing lit) = lit
powers (Lever facing on) = on
powers (Repeater r) = r.on
powers _ = false
