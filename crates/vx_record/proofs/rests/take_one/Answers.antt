use Rattle.std.proofs.Common.{◌≡◌, ◌<◌, [], ◌∷◌, ◌++◌, length, map, get_or, set, ap, subst, sym, ◌∙◌, arith}
use Rattle.std.proofs.lemmas.List.{map-set, length-map, get_or-map}
use Rattle.vx_sector.specs.SectorData.{EntryData, entry_of}
use Rattle.vx_record.specs.Said.{calls_of}
use Rattle.vx_record.specs.Rests.{AreBehind}
use Rattle.vx_record.proofs.Behind.{one_taken}
use Rattle.vx_record.proofs.rests.take_one.Goals as goal

pub returns-clause-taken : goal.returns-clause-taken
returns-clause-taken c = λ yes.
    let rests = c.args.rests.now in
    let lists = map (λ rest. rest.now) rests in
    let seats = c.args.seats in
    let e : EntryData = entry_of c.args.entry.now in
    let at = c.from-at.result in
    let rest = c.in-Some.rest in
    let within : at < length rests =
    omega (arith, c.requires, c.if-seats-seat.false, c.from-at.ensures) in
    let long : e.seat.number < length lists =
    omega (arith, within, c.from-at.ensures, length-map rests (λ rest. rest.now)) in
    let here : get_or lists at [] ≡ c.index-rests-at.result.now =
    get_or-map (λ rest. rest.now) rests at c.index-rests-at.result [] within
    ∙ ap (λ r. r.now) (sym c.index-rests-at.is) in
    let begun : get_or lists e.seat.number [] ≡ calls_of e.seat.number (e ∷ []) ++ rest.now =
    ap (λ n. get_or lists n []) (sym c.from-at.ensures) ∙ here ∙ c.in-Some.ensures in
    subst (AreBehind seats lists (e ∷ [])) (sym (map-set (λ rest. rest.now) rests at rest))
    (subst (λ n. AreBehind seats lists (e ∷ []) (set lists n rest.now)) (sym c.from-at.ensures)
    (one_taken seats lists e rest.now long begun))
