-- Which flags an edit sets, and which are set nowhere after it.
use Rattle.std.specs.Prelude.{◌≢◌, Option, Some}
use Rattle.vx_decide.specs.Unset.{IsUnset}
use Rattle.vx_flag.specs.declared.flag.Flag.{Flag}
use Rattle.vx_policy.specs.Asked.{Asked, SetFlag}
use Rattle.vx_region.specs.Regions.{Regions}

-- the edit does not set the flag, in a region or in the world at large
abbrev pub LeavesUnset : Asked → Flag → Type 0
LeavesUnset (SetFlag id flag setting) f = f ≢ flag
LeavesUnset e f = Unit {0}

-- each flag but this one, if there is one, is set nowhere after where it was set nowhere before
abbrev pub UnsetStaysBut : Option Flag → Regions → Regions → Type 0
UnsetStaysBut flag rs after = (f : Flag) → flag ≢ Some f → IsUnset rs f → IsUnset after f
