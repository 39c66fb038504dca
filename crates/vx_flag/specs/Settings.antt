use Rattle.std.specs.Prelude.{ℕ, zero, suc, [], ◌∷◌, map, slice_index_or, Option, None}
use Rattle.vx_flag.specs.Flag.{flags, flag_index}
use Rattle.vx_flag.specs.declared.flag.Flag.{Flag}
use Rattle.vx_flag.specs.declared.setting.Setting.{Setting}
use Rattle.vx_flag.specs.declared.settings.Settings.{Settings}

-- nothing is set for any flag
abbrev pub no_settings : Settings
no_settings = map (λ f. None) flags

-- what is set for a flag: the item at its place
abbrev pub setting_of : Settings → Flag → Option Setting
setting_of s f = slice_index_or s (flag_index f) None

-- another item at a place, and the others as they were; what a list is too short for is not set
abbrev pub put_at : Settings → ℕ → Option Setting → Settings
put_at [] zero o = o ∷ []
put_at [] (suc i) o = None ∷ put_at [] i o
put_at (x ∷ s) zero o = o ∷ s
put_at (x ∷ s) (suc i) o = x ∷ put_at s i o

-- one flag set, or left unset, and the others as they were
abbrev pub with_setting : Settings → Flag → Option Setting → Settings
with_setting s f o = put_at s (flag_index f) o
