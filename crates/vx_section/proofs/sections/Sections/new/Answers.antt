use Rattle.std.proofs.Common.{length, ◌∙◌, ap, arith}
use Rattle.vx_section.proofs.Filled.{length-filled}
use Rattle.vx_section.proofs.Storing.{bytes_blank, count_below}
use Rattle.vx_section.proofs.sections.Sections.new.Goals as goal

pub invariant_of-result : goal.invariant_of-result
invariant_of-result c = record {
  count = c.blank.ensures.count;
  long = λ k near. ap length (c.blank.ensures.each k near) ∙ length-filled 4096 c.args.byte;
}

pub returns : goal.returns
returns c = bytes_blank c.args.wide c.args.high c.blank.result c.args.byte (λ k near. c.blank.ensures.each k (omega (arith, near, count_below c.args.wide c.args.high)))
