use Rattle.std.proofs.Common.{◌≡◌, ℕ, ◌<◌, List, length, get_or, Result, Ok, Err, OnOk, OnErr, refl, sym, ap, subst, ◌∙◌, arith}
use Rattle.std.specs.Arc.{arc_value}
use Rattle.vx_geom.specs.Sizes.{Sizes}
use Rattle.vx_store.specs.Chests.{ChestData, SameSlots}
use Rattle.vx_store.specs.MachineMarks.{AreMachineMarks}
use Rattle.vx_cells.specs.Stored.{stored, IsBeside, IsStored}
use Rattle.vx_cells.proofs.Indices.{inside_from_holds}
use Rattle.vx_cells.proofs.StoredCells.{put-held, put-stored, stored-still}
use Rattle.vx_cells.proofs.stored.Stored.set.Goals as goal

pub index_in_sector-index-requires : goal.index_in_sector-index-requires
index_in_sector-index-requires c =
    let held = rw (← c.self.view_is) at c.requires in inside_from_holds _ c.args.p held

-- what holds whether a call did what it was asked for or left all as it was
by_either : {T E A B C X : Type 0} (r : Result T E) → OnOk r A → OnOk r B → OnErr r C → (A → B → X) → (C → X) → X
by_either (Ok x) a b c did left = did a b
by_either (Err e) a b c did left = left c

on_ok : {T E A B X : Type 0} (r : Result T E) → OnOk r A → OnOk r B → (A → B → X) → OnOk r X
on_ok (Ok x) a b did = did a b
on_ok (Err e) a b did = tt

on_err : {T E C X : Type 0} (r : Result T E) → OnErr r C → (C → X) → OnErr r X
on_err (Ok x) c left = tt
on_err (Err e) c left = left c

-- what is stored stays so where the bytes and the slots of each chest stay
stored_left : (bounds : Sizes) (codes new : List ℕ) (chests other : ChestData)
    → IsStored bounds codes chests → new ≡ codes → SameSlots chests other → IsStored bounds new other
stored_left bounds codes new chests other held is same =
    subst (λ cs. IsStored bounds cs other) (sym is) (record {
      whole = held.whole;
      codes = held.codes;
      chests = λ index. subst (IsBeside (get_or codes index 0)) (sym (same index)) (held.chests index);
    })

pub invariant_of-self : goal.invariant_of-self
invariant_of-self c =
    let s = c.self.inside in
    let kept = c.self.invariant in
    let index = c.index_in_sector-index.result in
    let code = c.encode-code.result in
    let within = c.index_in_sector-index.ensures.within in
    let near : index < length s.store = omega (arith, within, kept.stored.whole) in
    let told = c.stay.ensures c.if-stay.true s.store index (arc_value s.marks) near (sym c.get.ensures) kept.marks in
    record {
      sector_low = kept.sector_low;
      stored = by_either c.put_over.result c.put_over.ensures.store c.put_over.ensures.chests c.put_over.ensures.err
          (λ store chests. subst (λ codes. IsStored s.bounds codes c.put_over.new.chests) (sym store)
          (put-held s.bounds s.sector s.store s.chests kept.stored c.args.p index
          c.index_in_sector-index.ensures.value within _ _ _ refl chests c.encode-code.ensures.within))
          (λ left. stored_left s.bounds s.store c.put_over.new.store s.chests _ kept.stored left.0 left.1);
      marks = by_either c.put_over.result c.put_over.ensures.store c.put_over.ensures.chests c.put_over.ensures.err
          (λ store chests. subst (λ codes. AreMachineMarks codes (arc_value s.marks)) (sym store) told)
          (λ left. subst (λ codes. AreMachineMarks codes (arc_value s.marks)) (sym left.0) kept.marks);
    }

pub returns-then-stay-clause-ok : goal.returns-then-stay-clause-ok
returns-then-stay-clause-ok c =
    let s = c.self.inside in
    let within = c.index_in_sector-index.ensures.within in
    on_ok c.put_over.result c.put_over.ensures.store c.put_over.ensures.chests (λ store chests.
    ap (λ codes. stored s.bounds s.sector codes c.put_over.new.chests) store
    ∙ rw (← c.self.view_is) (put-stored s.bounds s.sector s.store s.chests c.self.invariant.stored c.args.p _
    c.index_in_sector-index.ensures.value within
    _ _ _ refl chests c.args.cell c.encode-code.ensures.cell))

pub returns-then-stay-clause-err : goal.returns-then-stay-clause-err
returns-then-stay-clause-err c =
    let s = c.self.inside in
    on_err c.put_over.result c.put_over.ensures.err (λ left.
    ap (λ codes. stored s.bounds s.sector codes c.put_over.new.chests) left.0
    ∙ stored-still s.bounds s.sector s.store s.chests c.put_over.new.chests left.1 ∙ c.self.view_is)

pub invariant_of-self-2 : goal.invariant_of-self-2
invariant_of-self-2 c =
    let s = c.self.inside in
    let kept = c.self.invariant in
    let index = c.index_in_sector-index.result in
    let code = c.encode-code.result in
    let within = c.index_in_sector-index.ensures.within in
    let near : index < length s.store = omega (arith, within, kept.stored.whole) in
    record {
      sector_low = kept.sector_low;
      stored = by_either c.put_marked.result c.put_marked.ensures.store c.put_marked.ensures.chests c.put_marked.ensures.err
          (λ store chests. subst (λ codes. IsStored s.bounds codes c.put_marked.new.chests) (sym store)
          (put-held s.bounds s.sector s.store s.chests kept.stored c.args.p index
          c.index_in_sector-index.ensures.value within _ _ _ refl chests c.encode-code.ensures.within))
          (λ left. stored_left s.bounds s.store c.put_marked.new.store s.chests _ kept.stored left.0 left.1);
      marks = c.put_marked.ensures.marks;
    }

pub returns-clause-ok : goal.returns-clause-ok
returns-clause-ok c =
    let s = c.self.inside in
    let within = c.index_in_sector-index.ensures.within in
    on_ok c.put_marked.result c.put_marked.ensures.store c.put_marked.ensures.chests (λ store chests.
    ap (λ codes. stored s.bounds s.sector codes c.put_marked.new.chests) store
    ∙ rw (← c.self.view_is) (put-stored s.bounds s.sector s.store s.chests c.self.invariant.stored c.args.p _
    c.index_in_sector-index.ensures.value within
    _ _ _ refl chests c.args.cell c.encode-code.ensures.cell))

pub returns-clause-err : goal.returns-clause-err
returns-clause-err c =
    let s = c.self.inside in
    on_err c.put_marked.result c.put_marked.ensures.err (λ left.
    ap (λ codes. stored s.bounds s.sector codes c.put_marked.new.chests) left.0
    ∙ stored-still s.bounds s.sector s.store s.chests c.put_marked.new.chests left.1 ∙ c.self.view_is)
