use Rattle.std.proofs.Common.{◌≡◌, sym, ◌∙◌, ap}
use Rattle.vx_section.specs.Forms.{fresh}
use Rattle.vx_section.specs.Kept.{shown}
use Rattle.vx_section.proofs.Filled.{same_filled}
use Rattle.vx_section.proofs.section.Section.same.Goals as goal

pub returns-in-One-One : goal.returns-in-One-One
returns-in-One-One c =
    let mine : fresh c.in-One-One.mine ≡ c.args.self.now = ap shown (sym c.in-One-One.is-0) ∙ c.self.view_is in
    let its : fresh c.in-One-One.its ≡ c.args.other.now = ap shown (sym c.in-One-One.is-1) ∙ c.other.view_is in
    rw (← mine, ← its) (same_filled c.in-One-One.mine c.in-One-One.its)
