use Rattle.std.proofs.Common.{◌/◌, ◌<◌, length, refl, arith}
use Rattle.std.proofs.lemmas.Result.{on_ok_weaker}
use Rattle.vx_marks.specs.declared.page.TheConstants.{PAGE}
use Rattle.vx_marks.proofs.Paging.{pages_length, run_marked}
use Rattle.vx_marks.proofs.marks.Marks.mark_run.Goals as goal

pub index_mut-requires : goal.index_mut-requires
index_mut-requires c =
    let within = rw (← c.self.view_is) at c.requires in
    omega (arith, within, pages_length (λ page. page) c.self.inside.pages.items c.self.invariant)

pub returns-clause-ok : goal.returns-clause-ok
returns-clause-ok c =
    let pages = c.self.inside.pages.items in
    let within = rw (← c.self.view_is) at c.requires in
    let near : c.args.first / PAGE < length pages = omega (arith, within, pages_length (λ page. page) pages c.self.invariant) in
    rw (← c.self.view_is)
    (on_ok_weaker c.mark_run.result
    (run_marked (λ page. page) pages c.self.invariant (c.args.first / PAGE) c.index_mut.result.now near c.index_mut.ensures.value
    c.mark_run.new.self c.args.first c.args.bits refl)
    c.mark_run.ensures.ok)
