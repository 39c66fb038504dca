use Rattle.vx_cells.proofs.StoredBlocks.{stored-whole}
use Rattle.vx_cells.proofs.stored.Stored.soundness.Goals as goal

pub returns : goal.returns
returns c = let s = c.self.inside in rw (← c.self.view_is) (stored-whole s.bounds s.sector s.store s.chests c.self.invariant.stored)
