use Rattle.std.proofs.lemmas.Bool.Decides.{Decides-at}
use Rattle.vx_flag.specs.SameSettings.{same_settings}
use Rattle.vx_flag.specs.SettingsLaws.{settings_decided}
use Rattle.vx_flag.proofs.settings.SettingsPartialEq.eq.Goals as goal

pub returns-clause-decides : goal.returns-clause-decides
unfolding same_settings
returns-clause-decides c =
    rw (← c.self.view_is, ← c.other.view_is) (Decides-at _ _ c.eq.ensures (settings_decided _ _))
