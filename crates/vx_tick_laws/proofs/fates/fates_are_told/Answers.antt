use Rattle.vx_tick_laws.proofs.ToldFates.{told_are_ends, ends_are_told}
use Rattle.vx_tick_laws.proofs.ToldInOrder.{told_in_order}
use Rattle.vx_tick_laws.proofs.fates.fates_are_told.Goals as goal

pub returns-clause-told : goal.returns-clause-told
returns-clause-told c = told_are_ends

pub returns-clause-ends : goal.returns-clause-ends
returns-clause-ends c = ends_are_told

pub returns-clause-order : goal.returns-clause-order
returns-clause-order c = told_in_order
