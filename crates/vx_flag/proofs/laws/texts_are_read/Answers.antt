use Rattle.vx_base.proofs.Named.{found_exactly}
use Rattle.vx_flag.proofs.Own.{own_flag, own_group, own_state}
use Rattle.vx_flag.specs.Flag.{flag_text, flags, flag_of}
use Rattle.vx_flag.specs.Group.{group_text, groups, group_of}
use Rattle.vx_flag.specs.State.{state_text, states, state_of}
use Rattle.vx_flag.proofs.laws.texts_are_read.Goals as goal

pub returns-clause-flags : goal.returns-clause-flags
unfolding flag_of
returns-clause-flags c = found_exactly flag_text flags own_flag

pub returns-clause-states : goal.returns-clause-states
unfolding state_of
returns-clause-states c = found_exactly state_text states own_state

pub returns-clause-groups : goal.returns-clause-groups
unfolding group_of
returns-clause-groups c = found_exactly group_text groups own_group
