use Rattle.std.proofs.Common.{◌≡◌, sym, ◌∙◌, ap}
use Rattle.vx_section.specs.Forms.{fresh}
use Rattle.vx_section.specs.Kept.{shown}
use Rattle.vx_section.proofs.Filled.{get_filled}
use Rattle.vx_section.proofs.section.Section.get.Goals as goal

pub returns-in-One : goal.returns-in-One
returns-in-One c =
    let e : fresh c.in-One.byte ≡ c.args.self.now = ap shown (sym c.in-One.is) ∙ c.self.view_is in
    rw (← e) (sym (get_filled 4096 c.in-One.byte c.args.place c.requires))
