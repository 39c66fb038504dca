use Rattle.std.proofs.Common.{◌≡◌, ◌+◌, length, map, sym, ap, ◌∙◌, arith}
use Rattle.std.proofs.lemmas.List.{length-map}
use Rattle.vx_record.specs.Records.{tick_in}
use Rattle.vx_record.specs.Rests.{lists_in}
use Rattle.vx_record.proofs.Tables.{all_agree, differs_closed, differs_open}
use Rattle.vx_record.proofs.settling.differing_among.Goals as goal

pub returns-in-Some : goal.returns-in-Some
returns-in-Some g c =
    let first = c.args.first in
    let cs = map g.P.Caller.caller c.args.callers.now in
    let places = map g.S.Place.sector c.args.places.now in
    let looked = map tick_in c.ticks_with-ticks.result.now in
    let tables = map lists_in c.put_calls.new.tables in
    let end = first + length c.put_calls.new.tables in
    let many : length tables ≡ length c.args.tables.now =
    length-map c.put_calls.new.tables lists_in ∙ c.put_calls.auto.tables in
    let ends : end ≡ first + length tables =
    ap (λ n. first + n) (sym (length-map c.put_calls.new.tables lists_in)) in
    differs_closed c.args.seats first end cs tables looked c.args.archive.now.chronicle.ticks places
    c.in-Some.seat c.in-Some.at c.requires.once ends
    (omega (arith, c.requires.within, c.put_calls.auto.tables, length-map c.args.places.now g.S.Place.sector))
    (λ at within. c.put_calls.ensures at (omega (arith, within, many)))
    c.ticks_with-ticks.ensures c.in-Some.ensures

pub returns-in-Some-first_unsaid : goal.returns-in-Some-first_unsaid
returns-in-Some-first_unsaid g c =
    let first = c.args.first in
    let cs = map g.P.Caller.caller c.args.callers.now in
    let places = map g.S.Place.sector c.args.places.now in
    let looked = map tick_in c.ticks_with-ticks.result.now in
    let tables = map lists_in c.put_calls.new.tables in
    let rests = map lists_in c.take_closed.new.tables in
    let end = first + length c.put_calls.new.tables in
    let many : length tables ≡ length c.args.tables.now =
    length-map c.put_calls.new.tables lists_in ∙ c.put_calls.auto.tables in
    let ends : end ≡ first + length tables =
    ap (λ n. first + n) (sym (length-map c.put_calls.new.tables lists_in)) in
    let as_long : length rests ≡ length tables =
    length-map c.take_closed.new.tables lists_in ∙ c.take_closed.auto.tables
    ∙ sym (length-map c.put_calls.new.tables lists_in) in
    differs_open c.args.seats first end cs tables rests looked c.args.archive.now.chronicle.ticks places
    c.in-Some-first_unsaid.seat c.in-Some-first_unsaid.at c.requires.once ends
    (omega (arith, c.requires.within, c.put_calls.auto.tables, length-map c.args.places.now g.S.Place.sector)) as_long
    (λ at within. c.put_calls.ensures at (omega (arith, within, many)))
    c.ticks_with-ticks.ensures c.in_default.ensures c.in-Some-first_unsaid.ensures

pub returns : goal.returns
returns g c =
    let first = c.args.first in
    let cs = map g.P.Caller.caller c.args.callers.now in
    let places = map g.S.Place.sector c.args.places.now in
    let looked = map tick_in c.ticks_with-ticks.result.now in
    let tables = map lists_in c.put_calls.new.tables in
    let rests = map lists_in c.take_closed.new.tables in
    let end = first + length c.put_calls.new.tables in
    let many : length tables ≡ length c.args.tables.now =
    length-map c.put_calls.new.tables lists_in ∙ c.put_calls.auto.tables in
    let ends : end ≡ first + length tables =
    ap (λ n. first + n) (sym (length-map c.put_calls.new.tables lists_in)) in
    let as_long : length rests ≡ length tables =
    length-map c.take_closed.new.tables lists_in ∙ c.take_closed.auto.tables
    ∙ sym (length-map c.put_calls.new.tables lists_in) in
    λ k from below.
    all_agree c.args.seats first end cs tables rests looked c.args.archive.now.chronicle.ticks places
    c.requires.once ends as_long
    (λ at within. c.put_calls.ensures at (omega (arith, within, many)))
    c.ticks_with-ticks.ensures c.in_default.ensures c.in_default-first_unsaid.ensures k from
    (omega (arith, below, c.put_calls.auto.tables))
