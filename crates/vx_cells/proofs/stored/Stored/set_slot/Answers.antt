use Rattle.std.proofs.Common.{ap, sym, subst, ◌∙◌}
use Rattle.std.proofs.lemmas.Result.{on_ok_weaker, on_err_weaker}
use Rattle.vx_cells.specs.Stored.{stored, IsStored}
use Rattle.vx_store.proofs.ChestParting.{either_way}
use Rattle.vx_cells.proofs.Indices.{inside_from_holds}
use Rattle.vx_cells.proofs.StoredCells.{chest-there, refilled-stored, refilled-held}
use Rattle.vx_cells.proofs.stored.Stored.set_slot.Goals as goal

pub index_in_sector-index-requires : goal.index_in_sector-index-requires
index_in_sector-index-requires c = let held = rw (← c.self.view_is) at c.requires.held in inside_from_holds _ c.args.p held

pub set-requires-clause-there : goal.set-requires-clause-there
set-requires-clause-there c =
    let s = c.self.inside in
    let within = c.index_in_sector-index.ensures.within in
    let chest = rw (← c.self.view_is) at c.requires.chest in
    chest-there s.bounds s.sector s.store s.chests c.self.invariant.stored c.args.p _ c.index_in_sector-index.ensures.value within chest

pub invariant_of-self : goal.invariant_of-self
invariant_of-self c =
    let s = c.self.inside in
    let kept = c.self.invariant in
    record {
      sector_low = kept.sector_low;
      stored = either_way c.set.result c.set.ensures.ok c.set.ensures.err
          (λ change. refilled-held s.bounds s.sector s.store s.chests kept.stored c.args.p _ c.index_in_sector-index.ensures.value
          c.index_in_sector-index.ensures.within c.set.new.self c.args.slot c.args.content change c.requires.content)
          (λ same. subst (λ d. IsStored s.bounds s.store d) (sym same) kept.stored);
      marks = kept.marks;
    }

pub returns-clause-ok : goal.returns-clause-ok
returns-clause-ok c =
    let s = c.self.inside in
    on_ok_weaker c.set.result
    (λ change. rw (← c.self.view_is) (refilled-stored s.bounds s.sector s.store s.chests c.self.invariant.stored c.args.p _
    c.index_in_sector-index.ensures.value c.index_in_sector-index.ensures.within c.set.new.self c.args.slot c.args.content change))
    c.set.ensures.ok

pub returns-clause-err : goal.returns-clause-err
returns-clause-err c =
    let s = c.self.inside in
    on_err_weaker c.set.result (λ same. ap (stored s.bounds s.sector s.store) same ∙ c.self.view_is) c.set.ensures.err
