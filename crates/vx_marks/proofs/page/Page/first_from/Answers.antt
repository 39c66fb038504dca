use Rattle.std.proofs.Common.{subst, sym}
use Rattle.vx_marks.specs.Marks.{IsFirstMarked}
use Rattle.vx_marks.proofs.Marking.{none_later, first_later}
use Rattle.vx_marks.proofs.page.Page.first_from.Goals as goal

pub returns-in_err-word : goal.returns-in_err-word
returns-in_err-word c =
    let p = c.self.inside in
    rw (← c.self.view_is) (subst (IsFirstMarked p.words c.args.from) (sym c.from_residual.ensures)
    (none_later p.words p.filled c.args.from c.self.invariant c.in_default.ensures c.in_err-word.ensures))

pub returns : goal.returns
returns c =
    let p = c.self.inside in
    rw (← c.self.view_is) (first_later p.words p.filled c.args.from c.self.invariant c.in_default.ensures
    c.in_ok-word.word c.first_of_word.result c.in_ok-word.ensures c.first_of_word.ensures)
