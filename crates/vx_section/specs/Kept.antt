-- What the three forms stand for.
use Rattle.std.specs.Prelude.{[]}
use Rattle.std.specs.Arc.{arc_value}
use Rattle.vx_section.specs.Forms.{SectionData, fresh}
use Rattle.vx_section.specs.declared.section.Form.{Form}
use Rattle.vx_section.specs.declared.section.Form.TheVariants.{One, Few, Each}

-- what a form shows
abbrev pub shown : Form → SectionData
shown (One byte) = fresh byte
shown (Few few) = arc_value few
shown (Each bytes) = record { bytes = arc_value bytes; form = 3; palette = [] }
