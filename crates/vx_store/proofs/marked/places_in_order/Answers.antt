use Rattle.std.proofs.Common.{◌++◌, not, ap, ◌∙◌, arith}
use Rattle.vx_store.proofs.MarkedPlaces.{left_from, found_first, found_on, found_all, none_found}
use Rattle.vx_store.proofs.marked.places_in_order.Goals as goal

pub returns-then-is_none : goal.returns-then-is_none
returns-then-is_none g c =
    c.new.ensures.items
    ∙ none_found c.args.bounds c.args.sector (g.M.InOrder.words c.args.marks.now) c.soundness.ensures c.requires.sector c.requires.room
    c.next_from.result c.next_from.ensures (c.is_none.ensures ∙ ap not c.if-is_none.true)

pub loop-index-init : goal.loop-index-init
loop-index-init g c =
    let v = c.args.bounds in
    let k = c.args.sector in
    let words = g.M.InOrder.words c.args.marks.now in
    record {
      within = omega arith;
      all = ap (λ ps. ps ++ left_from v k words 0) c.in_ok-found.ensures.items
          ∙ found_first v k words c.soundness.ensures c.requires.sector c.requires.room;
    }

pub loop-index-preserved : goal.loop-index-preserved
loop-index-preserved g c =
    let v = c.args.bounds in
    let k = c.args.sector in
    let words = g.M.InOrder.words c.args.marks.now in
    let index = c.in-Some.index in
    let held = c.loop-index.invariant in
    record {
      within = omega (arith, c.in-Some.ensures.1, c.requires.room);
      all = found_on v k words c.soundness.ensures c.requires.sector c.requires.room c.loop-index.from
          c.loop-index.found.items c.push.new.self.items index c.position_in_sector.result held.all c.in-Ok.ensures.items
          c.position_in_sector.ensures c.in-Some.ensures;
    }

pub returns : goal.returns
returns g c =
    let held = c.loop-index.invariant in
    found_all c.args.bounds c.args.sector (g.M.InOrder.words c.args.marks.now) c.soundness.ensures c.requires.sector c.requires.room
    c.loop-index.from c.loop-index.found.items held.within held.all c.in_default.ensures
