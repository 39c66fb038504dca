use Rattle.std.proofs.Common.{nat_eq, ap, sym, ◌∙◌}
use Rattle.std.specs.Int.{w64}
use Rattle.std.proofs.lemmas.Nat.Bits.{bit_at_set_same, bit_at_set_other, bit_at_clear_same, bit_at_clear_other}
use Rattle.vx_marks.proofs.words.with_bit.Goals as goal

pub returns-then-marked-clause-here : goal.returns-then-marked-clause-here
returns-then-marked-clause-here c =
    ap (λ b. nat_eq b 1) (bit_at_set_same w64 c.args.word c.args.bit c.requires) ∙ sym c.if-marked.true

pub returns-then-marked-clause-others : goal.returns-then-marked-clause-others
returns-then-marked-clause-others c =
    λ i _ apart. ap (λ b. nat_eq b 1) (bit_at_set_other w64 c.args.word c.args.bit c.requires i apart)

pub returns-else-marked-clause-here : goal.returns-else-marked-clause-here
returns-else-marked-clause-here c =
    ap (λ b. nat_eq b 1) (bit_at_clear_same w64 c.args.word c.args.bit c.requires) ∙ sym c.if-marked.false

pub returns-else-marked-clause-others : goal.returns-else-marked-clause-others
returns-else-marked-clause-others c =
    λ i low apart. ap (λ b. nat_eq b 1) (bit_at_clear_other w64 c.args.word c.args.bit c.requires i low apart)
