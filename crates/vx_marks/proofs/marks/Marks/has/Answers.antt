use Rattle.std.proofs.Common.{◌/◌, ◌<◌, length, refl, sym, ◌∙◌, arith}
use Rattle.vx_marks.specs.declared.page.TheConstants.{PAGE}
use Rattle.vx_marks.proofs.Paging.{none_past, mark_of_page}
use Rattle.vx_marks.proofs.marks.Marks.has.Goals as goal

pub returns-then-len-number : goal.returns-then-len-number
returns-then-len-number c =
    let pages = c.self.inside.pages.items in
    rw (← c.self.view_is)
    (sym (none_past (λ page. page) pages c.self.invariant c.args.index (omega (arith, c.if-len-number.true, c.len.ensures))))

pub returns : goal.returns
returns c =
    let pages = c.self.inside.pages.items in
    let near : c.args.index / PAGE < length pages = omega (arith, c.if-len-number.false, c.len.ensures) in
    rw (← c.self.view_is)
    (c.has.ensures
    ∙ sym (mark_of_page (λ page. page) pages c.self.invariant (c.args.index / PAGE) c.index.result.now near c.index.ensures c.args.index refl))
