use Rattle.std.proofs.Common.{nat_lt, length, ap, sym, subst, ◌∙◌}
use Rattle.vx_block.specs.Components.{is_device}
use Rattle.vx_cells.specs.Listed.{devices_of}
use Rattle.vx_store.specs.MachineMarks.{AreMarks, MarkWords}
use Rattle.vx_cells.proofs.StoredMarks.{marked_are}
use Rattle.vx_cells.proofs.stored.Stored.has_devices.Goals as goal

pub returns : goal.returns
unfolding devices_of
returns c =
    let s = c.self.inside in
    let kept = c.self.invariant in
    let are = subst (λ (m : MarkWords). AreMarks is_device s.store m.devices) (sym c.deref.ensures) kept.marks.devices in
    rw (← c.self.view_is) (c.has_any.ensures s.bounds s.sector c.soundness.ensures kept.sector_low
    (are.long ∙ kept.stored.whole)
    ∙ ap (λ ps. nat_lt 0 (length ps))
    (marked_are s.bounds s.sector s.store s.chests c.soundness.ensures kept.sector_low
    is_device c.deref.result.now.devices are))
