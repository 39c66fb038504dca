use Rattle.std.proofs.Common.{arith}
use Rattle.vx_section.proofs.Storing.{length-bytes_of, count_below}
use Rattle.vx_section.proofs.sections.Sections.form.Goals as goal

pub section_of-requires : goal.section_of-requires
section_of-requires c =
    let near = rw (← c.self.view_is) at c.requires in
    omega (arith, near, length-bytes_of c.self.inside.wide c.self.inside.high c.self.inside.sections, count_below c.self.inside.wide c.self.inside.high)
