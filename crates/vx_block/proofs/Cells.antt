-- No two cells have one text.
use Rattle.std.proofs.Common.{◌≡◌, ℕ, ◌<◌, Bool, false, true≢false, List, ◌∷◌, ◌++◌, refl, ap, sym, ◌∙◌, rules, arith}
use Rattle.std.specs.Prelude.{nat_eq}
use Rattle.std.proofs.lemmas.Bool.Decides.{Decides-eqb}
use Rattle.vx_base.specs.Digits.{small_word}
use Rattle.vx_geom.specs.declared.dir.Dir.{Dir}
use Rattle.vx_block.specs.Cut.{colon, word_of, all_joined}
use Rattle.vx_block.specs.Kind.{kind_word}
use Rattle.vx_block.specs.States.{side_dir, mount_dir, ticks_of, dir_word, on_word, out_word, grip_word}
use Rattle.vx_block.specs.Repeating.{Repeating, IsRepeating, repeater_words}
use Rattle.vx_block.specs.Cell.{kind_of, cell_text, IsCell}
use Rattle.vx_block.specs.declared.side.Side.{Side}
use Rattle.vx_block.specs.declared.mount.Mount.{Mount}
use Rattle.vx_block.specs.declared.delay.Delay.{Delay}
use Rattle.vx_block.specs.declared.lamp.Lamp.{Lamp}
use Rattle.vx_block.specs.declared.kind.Kind.{Kind}
use Rattle.vx_block.specs.declared.kind.Kind.TheVariants as kind
use Rattle.vx_block.specs.declared.cell.Cell.{Cell}
use Rattle.vx_block.specs.declared.cell.Cell.TheVariants as cell
use Rattle.vx_block.proofs.KindWords.{one_kind}

one_dir : (a b : Dir) → dir_word a ≡ dir_word b → a ≡ b
one_dir a b same = search rules

one_mount : (a b : Mount) → dir_word (mount_dir a) ≡ dir_word (mount_dir b) → a ≡ b
one_mount a b same = search rules

one_side : (a b : Side) → dir_word (side_dir a) ≡ dir_word (side_dir b) → a ≡ b
one_side a b same = search rules

one_delay : (a b : Delay) → small_word (ticks_of a) ≡ small_word (ticks_of b) → a ≡ b
one_delay a b same = search rules

one_on : (a b : Bool) → on_word a ≡ on_word b → a ≡ b
one_on a b same = search rules

one_out : (a b : Bool) → out_word a ≡ out_word b → a ≡ b
one_out a b same = search rules

one_grip : (a b : Bool) → grip_word a ≡ grip_word b → a ≡ b
one_grip a b same = search rules

one_small : (a b : ℕ) → a < 16 → b < 16 → small_word a ≡ small_word b → a ≡ b
one_small a b a_in b_in same = search (rules, arith)

word_is : (c : Cell) → word_of (cell_text c) ≡ kind_word (kind_of c)
word_is c = search rules

same_kind : (a b : Cell) → cell_text a ≡ cell_text b → kind_of a ≡ kind_of b
same_kind a b same = one_kind (kind_of a) (kind_of b) (sym (word_is a) ∙ ap word_of same ∙ word_is b)

one_torch : (f g : Mount) (l m : Bool) → cell_text (cell.Torch f l) ≡ cell_text (cell.Torch g m) → cell.Torch f l ≡ cell.Torch g m
one_torch f g l m same = search rules

one_lever : (f g : Dir) (l m : Bool) → cell_text (cell.Lever f l) ≡ cell_text (cell.Lever g m) → cell.Lever f l ≡ cell.Lever g m
one_lever f g l m same = search rules

one_lamp : (a b : Lamp) → cell_text (cell.Lamp a) ≡ cell_text (cell.Lamp b) → a ≡ b
one_lamp a b same = search rules

one_piston : (f g : Dir) (s t l m : Bool) → cell_text (cell.Piston f s l) ≡ cell_text (cell.Piston g t m) → cell.Piston f s l ≡ cell.Piston g t m
one_piston f g s t l m same = search rules

one_head : (f g : Dir) (l m : Bool) → cell_text (cell.Head f l) ≡ cell_text (cell.Head g m) → cell.Head f l ≡ cell.Head g m
one_head f g l m same = search rules

one_dust : (a b : ℕ) → a < 16 → b < 16 → cell_text (cell.Dust a) ≡ cell_text (cell.Dust b) → a ≡ b
one_dust a b a_in b_in same = one_small a b a_in b_in cc

side_then : (a b : Side) (x y : List ℕ) → dir_word (side_dir a) ++ colon ∷ x ≡ dir_word (side_dir b) ++ colon ∷ y → (a ≡ b) × (x ≡ y)
side_then a b x y same = search rules

delay_then : (a b : Delay) (x y : List ℕ) → small_word (ticks_of a) ++ colon ∷ x ≡ small_word (ticks_of b) ++ colon ∷ y → (a ≡ b) × (x ≡ y)
delay_then a b x y same = search rules

on_then : (a b : Bool) (x y : List ℕ) → on_word a ++ colon ∷ x ≡ on_word b ++ colon ∷ y → (a ≡ b) × (x ≡ y)
on_then a b x y same = search rules

short_wait : (d : Delay) (n : ℕ) → n < ticks_of d → n < 16
short_wait d n below = search (rules, arith)

one_repeater : (a b : Repeating) → IsRepeating a → IsRepeating b → all_joined (repeater_words a) ≡ all_joined (repeater_words b) → a ≡ b
one_repeater a b a_in b_in same =
    let facing = side_then a.facing b.facing _ _ same in
    let delay = delay_then a.delay b.delay _ _ facing.1 in
    let on = on_then a.on b.on _ _ delay.1 in
    let wait = one_small a.wait b.wait (short_wait a.delay a.wait a_in) (short_wait b.delay b.wait b_in) on.1 in
    λ i. record { facing = facing.0 i; delay = delay.0 i; on = on.0 i; wait = wait i }

-- the code of each kind, where the two kinds of piston have one
abbrev kind_code : Kind → ℕ
kind_code kind.Air = 0
kind_code kind.Stone = 1
kind_code kind.Dirt = 2
kind_code kind.Planks = 3
kind_code kind.Glass = 4
kind_code kind.Obsidian = 5
kind_code kind.Bedrock = 6
kind_code kind.Chest = 7
kind_code kind.Dust = 8
kind_code kind.Torch = 9
kind_code kind.Lever = 10
kind_code kind.Repeater = 11
kind_code kind.Lamp = 12
kind_code kind.Piston = 13
kind_code kind.StickyPiston = 13
kind_code kind.Head = 14

-- the same of a cell, which computes whatever its state
abbrev cell_code : Cell → ℕ
cell_code cell.Air = 0
cell_code cell.Stone = 1
cell_code cell.Dirt = 2
cell_code cell.Planks = 3
cell_code cell.Glass = 4
cell_code cell.Obsidian = 5
cell_code cell.Bedrock = 6
cell_code cell.Chest = 7
cell_code (cell.Dust level) = 8
cell_code (cell.Torch facing lit) = 9
cell_code (cell.Lever facing on) = 10
cell_code (cell.Repeater r) = 11
cell_code (cell.Lamp l) = 12
cell_code (cell.Piston facing sticky extended) = 13
cell_code (cell.Head facing sticky) = 14

code_is : (c : Cell) → cell_code c ≡ kind_code (kind_of c)
code_is c = search rules

same_code : (a b : Cell) → cell_text a ≡ cell_text b → cell_code a ≡ cell_code b
same_code a b same = code_is a ∙ ap kind_code (same_kind a b same) ∙ sym (code_is b)

-- cells of different codes have no text in common: much less to check than a search for each two variants
apart : (a b : Cell) → cell_code a ≡ cell_code b → nat_eq (cell_code a) (cell_code b) ≡ false → a ≡ b
apart a b same differ = absurd (true≢false (sym ((Decides-eqb (cell_code a) (cell_code b)).1 same) ∙ differ))

pub one_cell : (a b : Cell) → IsCell a → IsCell b → cell_text a ≡ cell_text b → a ≡ b
one_cell cell.Air cell.Air a_in b_in same = refl
one_cell cell.Stone cell.Stone a_in b_in same = refl
one_cell cell.Dirt cell.Dirt a_in b_in same = refl
one_cell cell.Planks cell.Planks a_in b_in same = refl
one_cell cell.Glass cell.Glass a_in b_in same = refl
one_cell cell.Obsidian cell.Obsidian a_in b_in same = refl
one_cell cell.Bedrock cell.Bedrock a_in b_in same = refl
one_cell cell.Chest cell.Chest a_in b_in same = refl
one_cell (cell.Dust a) (cell.Dust b) a_in b_in same = ap cell.Dust (one_dust a b a_in b_in same)
one_cell (cell.Torch f l) (cell.Torch g m) a_in b_in same = one_torch f g l m same
one_cell (cell.Lever f l) (cell.Lever g m) a_in b_in same = one_lever f g l m same
one_cell (cell.Repeater a) (cell.Repeater b) a_in b_in same = ap cell.Repeater (one_repeater a b a_in b_in cc)
one_cell (cell.Lamp a) (cell.Lamp b) a_in b_in same = ap cell.Lamp (one_lamp a b same)
one_cell (cell.Piston f s l) (cell.Piston g t m) a_in b_in same = one_piston f g s t l m same
one_cell (cell.Head f l) (cell.Head g m) a_in b_in same = one_head f g l m same
one_cell a b a_in b_in same = apart a b (same_code a b same) refl
