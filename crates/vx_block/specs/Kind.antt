use Rattle.std.specs.Prelude.{ℕ, List, codes}
use Rattle.vx_block.specs.declared.kind.Kind.{Kind}
use Rattle.vx_block.specs.declared.kind.Kind.TheVariants.{Air, Stone, Dirt, Planks, Glass, Obsidian, Bedrock, Chest, Dust, Torch, Lever, Repeater, Lamp, Piston, StickyPiston, Head}

-- the word with which the texts of a kind begin
abbrev pub kind_word : Kind → List ℕ
kind_word Air = codes "air"
kind_word Stone = codes "stone"
kind_word Dirt = codes "dirt"
kind_word Planks = codes "planks"
kind_word Glass = codes "glass"
kind_word Obsidian = codes "obsidian"
kind_word Bedrock = codes "bedrock"
kind_word Chest = codes "chest"
kind_word Dust = codes "dust"
kind_word Torch = codes "torch"
kind_word Lever = codes "lever"
kind_word Repeater = codes "repeater"
kind_word Lamp = codes "lamp"
kind_word Piston = codes "piston"
kind_word StickyPiston = codes "sticky"
kind_word Head = codes "head"
