use Rattle.std.proofs.Common.{◌≡◌, ◌+◌, ◌*◌, ◌/◌, ◌%◌, inl, inr, ◌∙◌, ap, sym, get_or, arith}
use Rattle.std.proofs.lemmas.Bool.{cases_eq}
use Rattle.vx_section.specs.Forms.{unpacked, kind_at}
use Rattle.vx_section.proofs.Pairing.{read_low, read_high}
use Rattle.vx_section.proofs.pairs.byte_of.Goals as goal

pub returns : goal.returns
returns c =
    let i = c.args.place in
    let palette = c.args.palette.now in
    let pairs = c.args.pairs.now in
    elim (cases_eq (i % 2) 0) [
      | inl even ↦ let e : 2 * (i / 2) ≡ i = omega arith in
          ap (kind_at palette) (c.number.ensures.low even) ∙ sym (read_low palette pairs (i / 2) (omega arith)) ∙ ap (λ j. get_or (unpacked palette pairs) j 0) e
      | inr odd ↦ let e : 2 * (i / 2) + 1 ≡ i = omega arith in
          ap (kind_at palette) (c.number.ensures.high (omega arith)) ∙ sym (read_high palette pairs (i / 2) (omega arith)) ∙ ap (λ j. get_or (unpacked palette pairs) j 0) e
    ]
