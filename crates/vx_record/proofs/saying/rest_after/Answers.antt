use Rattle.std.proofs.Common.{◌++◌, [], ◌∷◌, map, take, drop, ap, rules, ◌+◌, ◌∙◌}
use Rattle.vx_sector.specs.SectorData.{entry_of}
use Rattle.vx_record.specs.Said.{calls_of}
use Rattle.vx_record.proofs.Fronts.{cut_at, stops}
use Rattle.vx_record.proofs.saying.rest_after.Goals as goal

pub returns-in_default : goal.returns-in_default
returns-in_default c more same =
    let entries = c.args.entries.now in
    let index = c.loop-entry.entry-index in
    let entry = c.entry-item.result in
    let seat = c.args.seat in
    stops seat (map entry_of (take index entries)) (entry_of entry ∷ [])
    (map entry_of (drop (index + 1) entries)) c.args.calls.now c.loop-entry.rest.now more
    c.loop-entry.invariant c.in_default.ensures
    (same ∙ ap (λ es. calls_of seat es ++ more)
    (cut_at entry_of entries index entry (search rules) c.entry-item.is))
