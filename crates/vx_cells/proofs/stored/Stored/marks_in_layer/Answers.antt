use Rattle.std.proofs.Common.{◌*◌, ◌/◌, sym, subst}
use Rattle.vx_marks.specs.declared.page.TheConstants.{PAGE}
use Rattle.vx_store.specs.MachineMarks.{is_of, words_of, AreMachineMarks}
use Rattle.vx_cells.proofs.StoredMarks.{in_layer, marks_of_kind}
use Rattle.vx_cells.proofs.stored.Stored.marks_in_layer.Goals as goal

pub returns : goal.returns
returns c =
    let s = c.self.inside in
    let kind = c.args.kind in
    let are = marks_of_kind kind s.store c.deref.result.now
    (subst (AreMachineMarks s.store) (sym c.deref.ensures) c.self.invariant.marks) in
    rw (← c.self.view_is)
    (in_layer (is_of kind) s.bounds s.sector s.store (words_of kind c.deref.result.now) s.chests are c.soundness.ensures c.args.y
    _ (λ i. c.span-span.ensures i * c.span-span.ensures i * c.args.y / PAGE) _ c.page.ensures)
