-- The components of machines: the cells that give power, take it or hand it on as dust.
use Rattle.std.specs.Prelude.{Bool, true, false, ◌||◌}
use Rattle.vx_block.specs.declared.cell.Cell.{Cell}
use Rattle.vx_block.specs.declared.cell.Cell.TheVariants.{Dust, Torch, Lever, Repeater, Lamp, Piston}

-- the cell is dust
abbrev pub is_dust : Cell → Bool
is_dust (Dust level) = true
is_dust _ = false

-- it is a device: another component than dust
abbrev pub is_device : Cell → Bool
is_device (Torch facing lit) = true
is_device (Lever facing on) = true
is_device (Repeater r) = true
is_device (Lamp lamp) = true
is_device (Piston facing sticky extended) = true
is_device _ = false

-- it is a component
abbrev pub is_component : Cell → Bool
is_component c = is_dust c || is_device c
