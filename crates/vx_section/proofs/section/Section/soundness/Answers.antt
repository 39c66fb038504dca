use Rattle.std.proofs.Common.{◌≡◌, sym, ◌∙◌, ap}
use Rattle.vx_section.specs.Forms.{fresh}
use Rattle.vx_section.specs.Kept.{shown}
use Rattle.vx_section.proofs.Filled.{length-filled}
use Rattle.vx_section.proofs.section.Section.soundness.Goals as goal

pub returns-in-One : goal.returns-in-One
returns-in-One c =
    let e : fresh c.in-One.field-0 ≡ c.args.self.now = ap shown (sym c.in-One.is) ∙ c.self.view_is in
    rw (← e) (length-filled 4096 c.in-One.field-0)
