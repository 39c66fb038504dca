use Rattle.std.specs.Prelude.{Bool, true, false}
use Rattle.vx_block.specs.declared.cell.Cell.{Cell}
use Rattle.vx_block.specs.declared.cell.Cell.TheVariants.{Stone, Dirt, Planks, Obsidian, Bedrock, Lamp}

-- a cell that takes power and hands it on: a full block, but for glass, chests and pistons
abbrev pub conducts : Cell → Bool
conducts Stone = true
conducts Dirt = true
conducts Planks = true
conducts Obsidian = true
conducts Bedrock = true
conducts (Lamp lamp) = true
conducts _ = false
