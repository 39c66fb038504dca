-- Flags that are set nowhere.
use Rattle.std.specs.Prelude.{◌≡◌, Bool, false, None, is_some}
use Rattle.std.specs.List.{list_any}
use Rattle.vx_flag.specs.declared.flag.Flag.{Flag}
use Rattle.vx_flag.specs.Settings.{setting_of}
use Rattle.vx_region.specs.Regions.{Entry, Regions, setting_at}

-- the region sets the flag itself
abbrev pub sets : Flag → Entry → Bool
sets f e = is_some (setting_of e.1.settings f)

-- no region sets the flag, nor the world at large
pub record IsUnset (rs : Regions) (f : Flag) : Type 0 where
  pub at_large : setting_at rs 0 f ≡ None
  pub each : list_any (sets f) rs.entries ≡ false
