use Rattle.std.proofs.Common.{inl, inr, arith}
use Rattle.std.proofs.lemmas.Bool.{cases_lt, ltb-false, le-ltb}
use Rattle.vx_marks.proofs.Marking.{all_blank, not_blank}
use Rattle.vx_marks.proofs.page.Page.has_marks_in.Goals as goal

pub returns : goal.returns
returns c =
    let p = c.self.inside in
    let bits = c.run.result in
    rw (← c.self.view_is) (
      λ none. all_blank p.words p.filled c.args.word c.args.count bits c.self.invariant c.run.ensures
          (omega (arith, ltb-false 0 bits none)),
      λ blank. elim (cases_lt 0 bits) [
        | inl some ↦
            absurd (not_blank p.words p.filled c.args.word c.args.count bits c.self.invariant c.run.ensures some c.run.type_inv blank)
        | inr none ↦ le-ltb 0 bits none
      ],
    )
