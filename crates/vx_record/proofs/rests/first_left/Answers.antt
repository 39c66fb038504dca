use Rattle.std.proofs.Common.{◌≡◌, ◌<◌, [], length, map, get_or, below_more, ap, sym, ◌∙◌, arith}
use Rattle.std.proofs.lemmas.Bool.{eqb-true}
use Rattle.std.proofs.lemmas.List.{get_or-map, nil_from_length}
use Rattle.vx_record.proofs.rests.first_left.Goals as goal

pub loop-seat-preserved : goal.loop-seat-preserved
loop-seat-preserved c =
    let rests = c.args.rests.now in
    let lists = map (λ rest. rest.now) rests in
    let at = c.from.result in
    let rest = c.index-rests-from.result in
    let within : at < length rests =
    omega (arith, c.requires, c.loop-seat-test.true, c.from.ensures) in
    let none : rest.now ≡ [] =
    nil_from_length rest.now
    (eqb-true (length rest.now) 0 (sym c.is_empty.ensures ∙ c.if-not-is_empty.false)) in
    let here : get_or lists c.loop-seat.seat [] ≡ [] =
    ap (λ n. get_or lists n []) (sym c.from.ensures)
    ∙ get_or-map (λ rest. rest.now) rests at rest [] within
    ∙ ap (λ r. r.now) (sym c.index-rests-from.is) ∙ none in
    below_more (λ seat. get_or lists seat [] ≡ []) c.loop-seat.seat c.loop-seat.invariant here
