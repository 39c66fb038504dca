use Rattle.std.proofs.Common.{◌≡◌, ℕ, List, true, false, None, Some, sym}
use Rattle.vx_block.specs.Cut.{tail_of}
use Rattle.vx_block.specs.Cell.{kind_of, cell_text, IsCell}
use Rattle.vx_block.specs.declared.cell.Cell.{Cell}
use Rattle.vx_block.specs.declared.cell.Cell.TheVariants.{Air, Stone, Dirt, Planks, Glass, Obsidian, Bedrock, Chest, Dust, Torch, Lever, Repeater, Lamp, Piston, Head}
use Rattle.vx_block.proofs.cell.read_state.Goals as goal

no_tail : (text : List ℕ) (x : Cell) → None ≡ Some text → None ≡ Some x
no_tail text x same = cc

pub returns-in_default-clause-only : goal.returns-in_default-clause-only
returns-in_default-clause-only c = by
  where
    by : (x : Cell) → IsCell x → kind_of x ≡ c.args.kind → tail_of (cell_text x) ≡ Some c.args.state.now → None ≡ Some x
    by Air ranged same tail = no_tail c.args.state.now _ tail
    by Stone ranged same tail = no_tail c.args.state.now _ tail
    by Dirt ranged same tail = no_tail c.args.state.now _ tail
    by Planks ranged same tail = no_tail c.args.state.now _ tail
    by Glass ranged same tail = no_tail c.args.state.now _ tail
    by Obsidian ranged same tail = no_tail c.args.state.now _ tail
    by Bedrock ranged same tail = no_tail c.args.state.now _ tail
    by Chest ranged same tail = no_tail c.args.state.now _ tail
    by (Dust level) ranged same tail = absurd (c.in_default.not-Dust (sym same))
    by (Torch facing lit) ranged same tail = absurd (c.in_default.not-Torch (sym same))
    by (Lever facing on) ranged same tail = absurd (c.in_default.not-Lever (sym same))
    by (Repeater r) ranged same tail = absurd (c.in_default.not-Repeater (sym same))
    by (Lamp lamp) ranged same tail = absurd (c.in_default.not-Lamp (sym same))
    by (Piston facing true extended) ranged same tail = absurd (c.in_default.not-StickyPiston (sym same))
    by (Piston facing false extended) ranged same tail = absurd (c.in_default.not-Piston (sym same))
    by (Head facing sticky) ranged same tail = absurd (c.in_default.not-Head (sym same))
