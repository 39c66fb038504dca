use Rattle.std.proofs.Common.{◌≡◌, ◌*◌, length, IfOk, sym, subst, ◌∙◌}
use Rattle.vx_block.specs.Components.{is_device}
use Rattle.vx_geom.specs.Sizes.{sector_cells}
use Rattle.vx_cells.specs.Listed.{devices_of}
use Rattle.vx_store.specs.MachineMarks.{AreMarks, MarkWords}
use Rattle.vx_cells.proofs.StoredMarks.{marked_are}
use Rattle.vx_cells.proofs.stored.Stored.devices.Goals as goal

pub places-requires-clause-sector : goal.places-requires-clause-sector
places-requires-clause-sector c = c.self.invariant.sector_low

pub places-requires-clause-all : goal.places-requires-clause-all
places-requires-clause-all c =
    subst (λ (m : MarkWords). 64 * length m.devices ≡ sector_cells c.self.inside.bounds) (sym c.deref.ensures)
    (c.self.invariant.marks.devices.long ∙ c.self.invariant.stored.whole)

pub returns : goal.returns
unfolding devices_of
returns c =
    let s = c.self.inside in
    let are = subst (λ (m : MarkWords). AreMarks is_device s.store m.devices) (sym c.deref.ensures) c.self.invariant.marks.devices in
    rw (← c.self.view_is) (subst (λ all. IfOk c.places.result (λ found. found.items ≡ all))
    (marked_are s.bounds s.sector s.store s.chests c.soundness.ensures c.self.invariant.sector_low
    is_device c.deref.result.now.devices are)
    c.places.ensures)
