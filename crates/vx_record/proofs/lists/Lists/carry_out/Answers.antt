use Rattle.std.proofs.Common.{◌≡◌, inl, inr, ap, refl, rules, ◌∙◌, arith, length, sym}
use Rattle.std.proofs.lemmas.List.{length-map}
use Rattle.vx_sector.specs.SectorData.{seat_of}
use Rattle.vx_sector.proofs.Outside.{full_is_refused, untraced, there_answered, there_not_outside, there_not_full}
use Rattle.vx_record.specs.Calls.{calls_in, lists_after}
use Rattle.vx_record.proofs.Adding.{items_of, wanted, row_changed, one_more}
use Rattle.vx_record.proofs.lists.Lists.carry_out.Goals as goal

pub returns-then-is_full-clause-answer : goal.returns-then-is_full-clause-answer
returns-then-is_full-clause-answer c = inl (sym (full_is_refused _ _ _ c.requires.held (search rules)))

pub returns-then-is_full-clause-memory : goal.returns-then-is_full-clause-memory
returns-then-is_full-clause-memory c = inl (sym (full_is_refused _ _ _ c.requires.held (search rules)))

pub returns-then-is_full-clause-sector : goal.returns-then-is_full-clause-sector
returns-then-is_full-clause-sector c = untraced _ _ _ _ refl

pub returns-clause-answer : goal.returns-clause-answer
returns-clause-answer c =
    there_answered c.args.sector.now (seat_of c.args.seat.now) c.args.cmd.now _ c.requires.held (search rules) c.act_into.ensures.answer

pub returns-clause-memory : goal.returns-clause-memory
returns-clause-memory c = inr (wanted _ _ _ c.requires.held (search rules))

pub returns-clause-inside : goal.returns-clause-inside
returns-clause-inside c = λ is.
    let elsewhere = (there_not_outside c.args.sector.now (seat_of c.args.seat.now) c.args.cmd.now _ c.requires.held (search rules) c.act_into.ensures.answer).0 is in
    let held = c.requires.held in cc

pub returns-clause-full : goal.returns-clause-full
returns-clause-full c =
    let only = there_not_full c.args.sector.now (seat_of c.args.seat.now) c.args.cmd.now _ c.requires.held (search rules) c.act_into.ensures.answer in
    (λ is. (only.0 is).1, λ full. only.1 (c.requires.held, full))

pub returns-clause-lists : goal.returns-clause-lists
returns-clause-lists c =
    let long : length c.self.inside.rows.items ≡ length c.args.self.now =
    sym (length-map c.self.inside.rows.items items_of) ∙ ap length c.self.view_is in
    row_changed c.self.inside.rows.items c.args.at c.index_mut.result.now c.act_into.new.row c.args.cmd.now c.act_into.result
    (omega arith) c.index_mut.ensures.value c.act_into.ensures.row
    ∙ ap (λ lists. lists_after lists c.args.at c.args.cmd.now c.act_into.result) c.self.view_is

pub returns-clause-counted : goal.returns-clause-counted
returns-clause-counted c =
    ap calls_in (returns-clause-lists c) ∙ one_more c.args.self.now c.args.at c.args.cmd.now c.act_into.result c.requires.there
