use Rattle.std.proofs.Common.{◌+◌, [], ◌∷◌, map, take, drop, subst, sym}
use Rattle.vx_sector.specs.SectorData.{entry_of}
use Rattle.vx_record.specs.Rests.{AreBehind, IsAstray}
use Rattle.vx_record.proofs.Behind.{behind_more, astray_more}
use Rattle.vx_record.proofs.Fronts.{cut_at, taken_to}
use Rattle.vx_record.proofs.rests.take_all.Goals as goal

pub returns-then-not-take_one : goal.returns-then-not-take_one
returns-then-not-take_one c =
    let entries = c.args.entries.now in
    let k = c.loop-entry.entry-index in
    let entry = c.entry-item.result in
    let calls = map (λ rest. rest.now) c.args.rests.now in
    let rests = map (λ rest. rest.now) c.loop-entry.rests in
    let seat = entry.seat.number in
    subst (λ es. IsAstray c.args.seats calls es seat)
    (sym (cut_at entry_of entries k entry c.loop-entry-test.true c.entry-item.is))
    (astray_more c.args.seats calls rests (map entry_of (take k entries)) (entry_of entry ∷ [])
    (map entry_of (drop (k + 1) entries)) seat c.loop-entry.invariant
    (c.take_one.ensures.astray c.if-not-take_one.true))

pub loop-entry-preserved : goal.loop-entry-preserved
loop-entry-preserved c =
    let entries = c.args.entries.now in
    let k = c.loop-entry.entry-index in
    let entry = c.entry-item.result in
    let calls = map (λ rest. rest.now) c.args.rests.now in
    let rests = map (λ rest. rest.now) c.loop-entry.rests in
    let left = map (λ rest. rest.now) c.take_one.new.rests in
    subst (λ es. AreBehind c.args.seats calls es left)
    (sym (taken_to entry_of entries k entry c.loop-entry-test.true c.entry-item.is))
    (behind_more c.args.seats calls rests left (map entry_of (take k entries)) (entry_of entry ∷ [])
    c.loop-entry.invariant (c.take_one.ensures.taken c.if-not-take_one.false))
