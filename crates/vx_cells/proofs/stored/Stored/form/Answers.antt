use Rattle.std.proofs.Common.{arith}
use Rattle.vx_cells.proofs.Indices.{inside_from_holds}
use Rattle.vx_cells.proofs.stored.Stored.form.Goals as goal

pub index_in_sector-requires : goal.index_in_sector-requires
index_in_sector-requires c = let held = rw (← c.self.view_is) at c.requires in inside_from_holds _ c.args.p held

pub form-requires : goal.form-requires
form-requires c = omega (arith, c.index_in_sector.ensures.within, c.self.invariant.stored.whole)
