-- Each flag, state and group is found by its own text, and each flag by its own place.
use Rattle.std.proofs.Common.{◌≡◌, slice_get, Some, rules, ap, sym, ◌∙◌}
use Rattle.vx_flag.specs.Flag.{flag_text, flags, flag_index, flag_of}
use Rattle.vx_flag.specs.Group.{group_text, group_of}
use Rattle.vx_flag.specs.State.{state_text, state_of}
use Rattle.vx_flag.specs.declared.flag.Flag.{Flag}
use Rattle.vx_flag.specs.declared.group.Group.{Group}
use Rattle.vx_flag.specs.declared.state.State.{State}

pub own_flag : (f : Flag) → flag_of (flag_text f) ≡ Some f
unfolding flag_of
own_flag = search rules

pub own_place : (f : Flag) → slice_get flags (flag_index f) ≡ Some f
own_place = search rules

-- so no two flags have one place
pub one_place : (f g : Flag) → flag_index f ≡ flag_index g → f ≡ g
one_place f g same =
    let found : Some f ≡ Some g = sym (own_place f) ∙ ap (slice_get flags) same ∙ own_place g in cc

pub own_state : (s : State) → state_of (state_text s) ≡ Some s
unfolding state_of
own_state = search rules

pub own_group : (g : Group) → group_of (group_text g) ≡ Some g
unfolding group_of
own_group = search rules
