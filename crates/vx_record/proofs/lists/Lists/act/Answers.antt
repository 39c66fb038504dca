use Rattle.std.proofs.Common.{inl, refl, rules, sym}
use Rattle.vx_sector.proofs.Outside.{elsewhere_is_refused, untraced}
use Rattle.vx_record.proofs.lists.Lists.act.Goals as goal

pub returns-then-not-holds-clause-answer : goal.returns-then-not-holds-clause-answer
returns-then-not-holds-clause-answer c = inl (sym (elsewhere_is_refused _ _ _ (search rules)))

pub returns-then-not-holds-clause-memory : goal.returns-then-not-holds-clause-memory
returns-then-not-holds-clause-memory c = inl (sym (elsewhere_is_refused _ _ _ (search rules)))

pub returns-then-not-holds-clause-sector : goal.returns-then-not-holds-clause-sector
returns-then-not-holds-clause-sector c = untraced _ _ _ _ refl
