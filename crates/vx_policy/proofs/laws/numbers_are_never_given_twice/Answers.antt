use Rattle.vx_policy.proofs.Numbers.{number_is_new, number_is_the_last, last_is_kept, later_numbers_are_higher}
use Rattle.vx_policy.proofs.laws.numbers_are_never_given_twice.Goals as goal

pub returns-clause-new : goal.returns-clause-new
returns-clause-new c = number_is_new

pub returns-clause-given : goal.returns-clause-given
returns-clause-given c = number_is_the_last

pub returns-clause-kept : goal.returns-clause-kept
returns-clause-kept c = last_is_kept

pub returns-clause-later : goal.returns-clause-later
returns-clause-later c = later_numbers_are_higher
