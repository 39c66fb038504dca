use Rattle.std.specs.Prelude.{Bool, true, false, ◌&&◌}
use Rattle.std.specs.Cmp.Lexicographic.{pointwise}
use Rattle.std.specs.Option.{option_eq}
use Rattle.vx_flag.specs.declared.group.Group.{Group}
use Rattle.vx_flag.specs.declared.group.Group.TheVariants.{All, Members, Owners, Nonmembers, Nonowners}
use Rattle.vx_flag.specs.declared.state.State.{State}
use Rattle.vx_flag.specs.declared.state.State.TheVariants.{Allow, Deny}
use Rattle.vx_flag.specs.declared.setting.Setting.{Setting}
use Rattle.vx_flag.specs.declared.settings.Settings.{Settings}

abbrev pub same_state : State → State → Bool
same_state Allow Allow = true
same_state Deny Deny = true
same_state a b = false

abbrev pub same_group : Group → Group → Bool
same_group All All = true
same_group Members Members = true
same_group Owners Owners = true
same_group Nonmembers Nonmembers = true
same_group Nonowners Nonowners = true
same_group a b = false

-- the same state for the same group
abbrev pub same_setting : Setting → Setting → Bool
same_setting a b = same_state a.state b.state && same_group a.group b.group

-- the same is set for each flag
unfoldable pub same_settings : Settings → Settings → Bool
same_settings a b = pointwise (option_eq same_setting) a b
