use Rattle.vx_flag.specs.declared.action.Action.{Action}
use Rattle.vx_flag.specs.declared.action.Action.TheVariants.{Placing, Breaking, Turning, Reaching, Pushing}
use Rattle.vx_flag.specs.declared.flag.Flag.{Flag}
use Rattle.vx_flag.specs.declared.flag.Flag.TheVariants.{BlockBreak, BlockPlace, Usage, ChestAccess, Pistons}

-- the flag that decides on an action
abbrev pub flag_of_action : Action → Flag
flag_of_action Placing = BlockPlace
flag_of_action Breaking = BlockBreak
flag_of_action Turning = Usage
flag_of_action Reaching = ChestAccess
flag_of_action Pushing = Pistons
