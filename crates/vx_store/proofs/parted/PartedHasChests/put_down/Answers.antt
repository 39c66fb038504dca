use Rattle.vx_store.proofs.parted.PartedHasChests.put_down.Goals as goal

pub returns-clause-err : goal.returns-clause-err
returns-clause-err g c = rw (← c.self.view_is) c.put_down_in.ensures.err
