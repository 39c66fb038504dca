use Rattle.std.proofs.Common.{◌∙◌}
use Rattle.vx_cells.proofs.Indices.{inside_from_holds}
use Rattle.vx_cells.proofs.StoredCells.{chest-stored}
use Rattle.vx_cells.proofs.stored.Stored.slots.Goals as goal

pub index_in_sector-requires : goal.index_in_sector-requires
index_in_sector-requires c = let held = rw (← c.self.view_is) at c.requires in inside_from_holds _ c.args.p held

pub returns-clause-slots : goal.returns-clause-slots
returns-clause-slots c =
    let s = c.self.inside in
    let within = c.index_in_sector.ensures.within in
    rw (← c.self.view_is) (c.get.ensures ∙ chest-stored s.bounds s.sector s.store s.chests c.self.invariant.stored c.args.p _ c.index_in_sector.ensures.value within)
