use Rattle.vx_play.proofs.Playing.{no_edit_counts_before_a_tick, edits_count_from_the_next_tick, steps_are_counted}
use Rattle.vx_play.proofs.laws.edits_count_from_the_next_tick.Goals as goal

pub returns-clause-none : goal.returns-clause-none
returns-clause-none c = no_edit_counts_before_a_tick

pub returns-clause-next : goal.returns-clause-next
returns-clause-next c = edits_count_from_the_next_tick

pub returns-clause-counted : goal.returns-clause-counted
returns-clause-counted c = steps_are_counted
