use Rattle.std.specs.Prelude.{Option, Some, None}
use Rattle.vx_geom.specs.declared.pos.Pos.{Pos}
use Rattle.vx_flag.specs.declared.action.Action.{Action}
use Rattle.vx_flag.specs.declared.action.Action.TheVariants.{Placing, Breaking, Turning, Reaching}
use Rattle.vx_sector.specs.declared.cmd.Cmd.{Cmd}
use Rattle.vx_sector.specs.declared.cmd.Cmd.TheVariants.{Look, Place, Break, Turn, OpenChest, Put, Take}

-- the position that a command speaks of
abbrev pub place_of : Cmd → Pos
place_of (Look p) = p
place_of (Place p part) = p
place_of (Break p) = p
place_of (Turn p) = p
place_of (OpenChest p) = p
place_of (Put p slot item count) = p
place_of (Take p slot count) = p

-- the action that a command asks leave for; a look asks nobody
abbrev pub action_of : Cmd → Option Action
action_of (Look p) = None
action_of (Place p part) = Some Placing
action_of (Break p) = Some Breaking
action_of (Turn p) = Some Turning
action_of (OpenChest p) = Some Reaching
action_of (Put p slot item count) = Some Reaching
action_of (Take p slot count) = Some Reaching
