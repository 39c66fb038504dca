use Rattle.std.proofs.Common.{◌≡◌, length, map, sym, ap, ◌∙◌, subst, arith}
use Rattle.std.proofs.lemmas.List.{with_items_is}
use Rattle.vx_sector.specs.SectorData.{entry_of}
use Rattle.vx_windows.specs.Sectors.{entries_in}
use Rattle.vx_record.specs.Records.{tick_in}
use Rattle.vx_audit.specs.Walks.{AreDone}
use Rattle.vx_audit.proofs.walk.Walk.follow_tick.Goals as goal

pub returns : goal.returns
returns c = λ yes.
    let i = c.self.inside in
    let done = c.is_done.ensures c.if-not-is_done.false in
    let long : length c.put_into.new.places ≡ i.lefts.len =
    omega (arith, c.put_into.auto.places, ap length c.deref_mut.ensures.value, i.lefts.ok.0) in
    let lefts = with_items_is i.lefts c.put_into.new.places long in
    rw (← c.self.view_is) (record {
      tick = tick_in c.in-Some.tick.now;
      ticks = map tick_in c.in-Some.ticks.now;
      there = c.in-Some.ensures;
      closed = subst (λ w. AreDone w.lefts) (sym c.self.view_is) done;
      counted = ap (λ v. v.edits) (sym c.version_of.ensures) ∙ c.if-version_of-self.false;
      after = λ j. record {
        lefts = (ap (map (λ left. map entry_of left.now)) lefts ∙ c.put_into.ensures ∙ c.first-next.ensures) j;
        ticks = map tick_in c.in-Some.ticks.now;
        pending = map entries_in i.pending.now;
        last = i.version.now;
        edits = i.edits;
      };
    })
