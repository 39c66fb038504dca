use Rattle.std.proofs.Common.{◌≡◌, List, Bor, length, map, sym, ap, ◌∙◌, subst, arith}
use Rattle.std.proofs.lemmas.List.{length-map, with_items_is}
use Rattle.vx_sector.specs.SectorData.{EntryData, entry_of}
use Rattle.vx_sector.specs.declared.entry.Entry.{Entry}
use Rattle.vx_windows.specs.Sectors.{entries_in}
use Rattle.vx_record.specs.Records.{tick_in}
use Rattle.vx_audit.specs.Counts.{IsCounted, AreAfter}
use Rattle.vx_audit.specs.Walks.{WalkData, FollowsBlock}
use Rattle.vx_audit.proofs.Counted.{block_by}
use Rattle.vx_audit.proofs.walk.Walk.follow_block.Goals as goal

abbrev seen : List (Bor (List Entry)) → List (List EntryData)
seen lefts = map (λ left. map entry_of left.now) lefts

pub returns : goal.returns
returns c =
    let i = c.self.inside in
    let counts = c.count_block.new.counts in
    let lefts = c.take_counted.new.lefts in
    let counted : IsCounted c.args.marks.now counts c.in_ok-others.others.now = c.in_ok-others.ensures in
    let w : WalkData = record {
      lefts = seen i.lefts.items;
      ticks = map tick_in i.ticks.now;
      pending = map entries_in i.pending.now;
      last = i.version.now;
      edits = i.edits;
    } in
    let as_many : length counts ≡ i.counts.len =
    omega (arith, c.count_block.auto.counts, ap length c.deref_mut.ensures.value, i.counts.ok.0) in
    let table : c.deref.result.now ≡ counts = c.deref.ensures.value ∙ with_items_is i.counts counts as_many in
    let long : length lefts ≡ i.lefts.len =
    omega (arith, c.take_counted.auto.lefts, ap length c.deref_mut-2.ensures.value, i.lefts.ok.0) in
    let here : AreAfter counts (seen c.deref_mut-2.result.now) (seen lefts) =
    subst (λ t. AreAfter t (seen c.deref_mut-2.result.now) (seen lefts)) table (c.take_counted.ensures c.if-not-take_counted.false) in
    let are : AreAfter counts w.lefts (seen lefts) = subst (λ ls. AreAfter counts (seen ls) (seen lefts)) c.deref_mut-2.ensures.value here in
    let same : length w.lefts ≡ length (seen lefts) =
    length-map i.lefts.items (λ left. map entry_of left.now) ∙ omega (arith, long, i.lefts.ok.0) ∙ sym (length-map lefts (λ left. map entry_of left.now)) in
    let follows : FollowsBlock w counted.spots (record w { lefts = seen lefts }) = block_by w counted.spots counts (seen lefts) same counted.counted are in
    rw (← c.self.view_is) (record {
      spots = counted.spots;
      follows = subst (λ ls. FollowsBlock w counted.spots (record w { lefts = seen ls })) (sym (with_items_is i.lefts lefts long)) follows;
      parts = counted.parts;
    })
