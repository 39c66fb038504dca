use Rattle.std.proofs.Common.{◌/◌, ◌<◌, false, length, refl, arith}
use Rattle.vx_marks.specs.declared.page.TheConstants.{PAGE}
use Rattle.vx_marks.proofs.Paging.{pages_length, mark_set}
use Rattle.vx_marks.proofs.marks.Marks.clear.Goals as goal

pub index_mut-requires : goal.index_mut-requires
index_mut-requires c =
    let within = rw (← c.self.view_is) at c.requires in
    omega (arith, within, pages_length (λ page. page) c.self.inside.pages.items c.self.invariant)

pub returns : goal.returns
returns c =
    let pages = c.self.inside.pages.items in
    let within = rw (← c.self.view_is) at c.requires in
    let near : c.args.index / PAGE < length pages = omega (arith, within, pages_length (λ page. page) pages c.self.invariant) in
    rw (← c.self.view_is)
    (mark_set (λ page. page) pages c.self.invariant (c.args.index / PAGE) c.index_mut.result.now near c.index_mut.ensures.value
    c.clear.new.self c.args.index false refl c.clear.ensures)
