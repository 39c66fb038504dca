use Rattle.std.proofs.Common.{◌≡◌, ◌+◌, ◌<◌, [], None, length, map, get_or, below_more, sym, ap, subst, ◌∙◌, arith}
use Rattle.std.proofs.lemmas.List.{map-set, get_or-map, get_or-set_other}
use Rattle.vx_sector.specs.SectorData.{entry_of}
use Rattle.vx_record.specs.Settling.{sector_in, open_entries}
use Rattle.vx_record.specs.Rests.{lists_in, AreSaid}
use Rattle.vx_record.proofs.settling.first_unsaid.Goals as goal

pub loop-at-preserved : goal.loop-at-preserved
loop-at-preserved g c =
    let seats = c.args.seats in
    let first = c.args.first in
    let n = c.loop-at.at in
    let sector = g.S.Place.sector in
    let sectors = map sector c.args.places.now in
    let before = map lists_in c.args.tables.now in
    let tables = map lists_in c.loop-at.tables in
    let room : n < length c.loop-at.tables = omega (arith, c.loop-at-test.true, c.loop-at.auto.tables) in
    let within : first + n < length c.args.places.now = omega (arith, room, c.loop-at.auto.tables, c.requires.within) in
    let table : get_or before n [] ≡ lists_in (get_or c.loop-at.tables n c.index-tables-at.result) =
    sym (c.loop-at.invariant.still n (omega arith))
    ∙ get_or-map lists_in c.loop-at.tables n c.index-tables-at.result [] room in
    let window : map entry_of c.window_in.result.now ≡ open_entries (sector_in sectors (first + n)) =
    c.window_in.ensures
    ∙ ap (λ place. open_entries (sector place)) c.index-places-first.is
    ∙ ap open_entries (sym (get_or-map sector c.args.places.now (first + n) c.index-places-first.result None within)) in
    let here : AreSaid seats (get_or before n []) (open_entries (sector_in sectors (first + n))) =
    subst (λ calls. AreSaid seats calls (open_entries (sector_in sectors (first + n)))) (sym table)
    (subst (AreSaid seats (lists_in (get_or c.loop-at.tables n c.index-tables-at.result))) window c.in_default.ensures) in
    record {
      said = below_more (λ at. AreSaid seats (get_or before at []) (open_entries (sector_in sectors (first + at)))) n
          c.loop-at.invariant.said here;
      still = λ at from.
          ap (λ ts. get_or ts at []) (map-set lists_in c.loop-at.tables n c.unsaid.new.table)
          ∙ get_or-set_other tables n at (lists_in c.unsaid.new.table) [] (omega (arith, from))
          ∙ c.loop-at.invariant.still at (omega (arith, from));
    }
