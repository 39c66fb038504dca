use Rattle.std.proofs.Common.{◌/◌, ◌<◌, length, set, refl, subst, sym, arith}
use Rattle.vx_marks.specs.declared.page.TheConstants.{PAGE}
use Rattle.vx_store.specs.MachineMarks.{joined, AreMachineMarks}
use Rattle.vx_store.specs.declared.mark_kind.MarkKind.TheVariants.{Component}
use Rattle.vx_store.proofs.Paging.{pages_length, pages_set, marks_changed}
use Rattle.vx_store.proofs.Marks.{machine_marks_set}
use Rattle.vx_store.proofs.Outside.{set_are_marked}
use Rattle.vx_store.proofs.machine_marks.MachineMarks.put_down.Goals as goal

pub index_mut-requires : goal.index_mut-requires
index_mut-requires c =
    let old = rw (← c.self.view_is) at c.requires.marks in
    omega (arith, c.requires.can.within, old.components.long, pages_length Component c.self.inside.pages.items c.self.invariant.pages)

pub invariant_of-self-2 : goal.invariant_of-self-2
invariant_of-self-2 c =
    let s = c.self.inside in
    let pages = s.pages.items in
    let index = c.args.index in
    let old = rw (← c.self.view_is) at c.requires.marks in
    let near : index / PAGE < length pages =
    omega (arith, c.requires.can.within, old.components.long, pages_length Component pages c.self.invariant.pages) in
    let new = c.put_down.new.self in
    let page = c.index_mut.result.now in
    let read = c.index_mut.ensures.value in
    let changed = c.in_ok-put_down.ensures.marks in
    let are = c.self.invariant.pages in
    set_are_marked pages s.first s.end c.self.invariant (index / PAGE) new index c.args.code _ _ refl near
    (pages_set pages (index / PAGE) page new index c.args.code are near read refl changed)
    (marks_changed pages (index / PAGE) page new index c.args.code are near read refl changed)
    (omega (arith, c.min-self-inside.ensures)) (omega (arith, c.min-self-inside.ensures))
    (omega (arith, c.max-self-inside.ensures)) (omega (arith, c.max-self-inside.ensures))
    (omega (arith, c.max-self-inside.ensures, near, c.self.invariant.within))

pub returns-clause-marks : goal.returns-clause-marks
returns-clause-marks c =
    let pages = c.self.inside.pages.items in
    let index = c.args.index in
    let old = rw (← c.self.view_is) at c.requires.marks in
    let near : index / PAGE < length pages =
    omega (arith, c.requires.can.within, old.components.long, pages_length Component pages c.self.invariant.pages) in
    let new = set pages (index / PAGE) c.put_down.new.self in
    subst (λ codes. AreMachineMarks codes (joined new)) (sym c.in_ok-put_down.ensures.store)
    (machine_marks_set c.args.store.now (joined pages) (joined new) index c.args.code old c.requires.can.within
    (marks_changed pages (index / PAGE) c.index_mut.result.now c.put_down.new.self index c.args.code c.self.invariant.pages near
    c.index_mut.ensures.value refl c.in_ok-put_down.ensures.marks))
