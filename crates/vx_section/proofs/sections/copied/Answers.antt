use Rattle.std.proofs.Common.{length, ◌∙◌, ap, arith}
use Rattle.vx_section.proofs.Filled.{length-filled}
use Rattle.vx_section.proofs.sections.copied.Goals as goal

pub loop-k-init : goal.loop-k-init
loop-k-init c = record {
  sections = record {
    count = c.blank-copies.ensures.count;
    long = λ k near. ap length (c.blank-copies.ensures.each k near) ∙ length-filled 4096 0;
  };
  same = λ k none. absurd (omega (arith, none));
}
