use Rattle.std.proofs.Common.{◌≡◌, inl, inr, true, sym, subst, refl, rules}
use Rattle.vx_sector.specs.SectorData.{seat_of}
use Rattle.vx_sector.specs.Windows.{is_recorded}
use Rattle.vx_sector.proofs.ActingLemmas.{answer_recorded}
use Rattle.vx_sector.proofs.Outside.{elsewhere_is_refused, full_is_refused, answered_by_the_rules, untraced, there_answered, there_not_outside, there_not_full, room_where_not_full}
use Rattle.vx_sector.proofs.sector.Sector.act.Goals as goal

pub returns-then-not-holds-clause-answer : goal.returns-then-not-holds-clause-answer
returns-then-not-holds-clause-answer c = inl (sym (elsewhere_is_refused _ _ _ (search rules)))

pub returns-then-not-holds-clause-memory : goal.returns-then-not-holds-clause-memory
returns-then-not-holds-clause-memory c = inl (sym (elsewhere_is_refused _ _ _ (search rules)))

pub returns-then-not-holds-clause-after : goal.returns-then-not-holds-clause-after
returns-then-not-holds-clause-after c = untraced _ _ _ _ refl

pub returns-then-is_full-clause-answer : goal.returns-then-is_full-clause-answer
returns-then-is_full-clause-answer c = inl (sym (full_is_refused _ _ _ (search rules) (search rules)))

pub returns-then-is_full-clause-memory : goal.returns-then-is_full-clause-memory
returns-then-is_full-clause-memory c = inl (sym (full_is_refused _ _ _ (search rules) (search rules)))

pub returns-then-is_full-clause-after : goal.returns-then-is_full-clause-after
returns-then-is_full-clause-after c = untraced _ _ _ _ refl

pub carry_out-requires-clause-room : goal.carry_out-requires-clause-room
carry_out-requires-clause-room c = room_where_not_full c.args.self.now (search rules)

pub returns-clause-answer : goal.returns-clause-answer
returns-clause-answer c = rw (c.told.ensures) (there_answered c.args.self.now (seat_of c.args.seat) c.args.cmd _ (search rules) (search rules) c.carry_out.ensures.answer)

pub returns-clause-memory : goal.returns-clause-memory
returns-clause-memory c = inr (subst (λ a. is_recorded a ≡ true) (answered_by_the_rules c.args.self.now (seat_of c.args.seat) c.args.cmd (search rules)
    (search rules)) (answer_recorded _ _ _ _))

pub returns-clause-outside : goal.returns-clause-outside
returns-clause-outside c = rw (c.told.ensures) (there_not_outside c.args.self.now (seat_of c.args.seat) c.args.cmd _ (search rules) (search rules) c.carry_out.ensures.answer)

pub returns-clause-full : goal.returns-clause-full
returns-clause-full c = rw (c.told.ensures) (there_not_full c.args.self.now (seat_of c.args.seat) c.args.cmd _ (search rules) (search rules) c.carry_out.ensures.answer)

pub returns-clause-after : goal.returns-clause-after
returns-clause-after c = rw (c.told.ensures) c.carry_out.ensures.after
