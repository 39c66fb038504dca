use Rattle.std.specs.Prelude.{ℕ, ◌≡◌, ◌<◌, List, [], ◌∷◌, ◌++◌}
use Rattle.vx_base.specs.Digits.{small_word}
use Rattle.vx_block.specs.Cut.{colon, joined}
use Rattle.vx_block.specs.Kind.{kind_word}
use Rattle.vx_block.specs.States.{mount_dir, dir_word, on_word, out_word, grip_word, lamp_words}
use Rattle.vx_block.specs.Repeating.{IsRepeating, repeater_words}
use Rattle.vx_block.specs.declared.kind.Kind.{Kind}
use Rattle.vx_block.specs.declared.kind.Kind.TheVariants as kind
use Rattle.vx_block.specs.declared.cell.Cell.{Cell}
use Rattle.vx_block.specs.declared.cell.Cell.TheVariants.{Air, Stone, Dirt, Planks, Glass, Obsidian, Bedrock, Chest, Dust, Torch, Lever, Repeater, Lamp, Piston, Head}
use Rattle.std.specs.Prelude.{true, false}

-- the kind of a cell
abbrev pub kind_of : Cell → Kind
kind_of Air = kind.Air
kind_of Stone = kind.Stone
kind_of Dirt = kind.Dirt
kind_of Planks = kind.Planks
kind_of Glass = kind.Glass
kind_of Obsidian = kind.Obsidian
kind_of Bedrock = kind.Bedrock
kind_of Chest = kind.Chest
kind_of (Dust level) = kind.Dust
kind_of (Torch facing lit) = kind.Torch
kind_of (Lever facing on) = kind.Lever
kind_of (Repeater r) = kind.Repeater
kind_of (Lamp lamp) = kind.Lamp
kind_of (Piston facing true extended) = kind.StickyPiston
kind_of (Piston facing false extended) = kind.Piston
kind_of (Head facing sticky) = kind.Head

-- the words that tell the state of a cell
abbrev pub cell_state : Cell → List (List ℕ)
cell_state (Dust level) = small_word level ∷ []
cell_state (Torch facing lit) = dir_word (mount_dir facing) ∷ on_word lit ∷ []
cell_state (Lever facing on) = dir_word facing ∷ on_word on ∷ []
cell_state (Repeater r) = repeater_words r
cell_state (Lamp lamp) = lamp_words lamp
cell_state (Piston facing sticky extended) = dir_word facing ∷ out_word extended ∷ []
cell_state (Head facing sticky) = dir_word facing ∷ grip_word sticky ∷ []
cell_state _ = []

-- the text of a cell: the word of its kind, and those of its state
abbrev pub cell_text : Cell → List ℕ
cell_text c = joined (kind_word (kind_of c)) (cell_state c)

-- the numbers of a cell are in their ranges
abbrev pub IsCell : Cell → Type 0
IsCell (Dust level) = level < 16
IsCell (Repeater r) = IsRepeating r
IsCell _ = Unit {0}

-- it is a cell, and its text is a word, a colon and the text of a state
abbrev pub IsSpelled : List ℕ → List ℕ → Cell → Type 0
IsSpelled word state c = IsCell c × (cell_text c ≡ word ++ colon ∷ state)
