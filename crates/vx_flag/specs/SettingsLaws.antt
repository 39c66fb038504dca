-- The test of two settings answers yes exactly where they are one, and so meets the laws of `==`.
use Rattle.std.specs.Prelude.{◌≡◌, Option, Some, None, refl}
use Rattle.std.specs.Bool.{Decides}
use Rattle.std.specs.Cmp.{IsEquivalence, decided}
use Rattle.std.specs.Cmp.Lexicographic.{pointwise_decides}
use Rattle.std.specs.Option.{option_eq}
use Rattle.std.proofs.Common.{ap}
use Rattle.std.proofs.lemmas.Bool.{false≢true}
use Rattle.std.proofs.lemmas.Bool.Decides.{Decides-and, Decides-like}
use Rattle.vx_flag.specs.declared.group.Group.{Group}
use Rattle.vx_flag.specs.declared.group.Group.TheVariants.{All, Members, Owners, Nonmembers, Nonowners}
use Rattle.vx_flag.specs.declared.state.State.{State}
use Rattle.vx_flag.specs.declared.state.State.TheVariants.{Allow, Deny}
use Rattle.vx_flag.specs.declared.setting.Setting.{Setting}
use Rattle.vx_flag.specs.declared.settings.Settings.{Settings}
use Rattle.vx_flag.specs.SameSettings.{same_state, same_group, same_setting, same_settings}

state_decided : (a b : State) → Decides (same_state a b) (a ≡ b)
state_decided Allow Allow = (λ e. refl, λ e. refl)
state_decided Deny Deny = (λ e. refl, λ e. refl)
state_decided a b = (λ e. absurd (false≢true e), λ e. cc)

group_decided : (a b : Group) → Decides (same_group a b) (a ≡ b)
group_decided All All = (λ e. refl, λ e. refl)
group_decided Members Members = (λ e. refl, λ e. refl)
group_decided Owners Owners = (λ e. refl, λ e. refl)
group_decided Nonmembers Nonmembers = (λ e. refl, λ e. refl)
group_decided Nonowners Nonowners = (λ e. refl, λ e. refl)
group_decided a b = (λ e. absurd (false≢true e), λ e. cc)

setting_joined : (a b : Setting) → (a.state ≡ b.state) × (a.group ≡ b.group) → a ≡ b
setting_joined a b h i = record { state = h.0 i; group = h.1 i }

setting_decided : (a b : Setting) → Decides (same_setting a b) (a ≡ b)
setting_decided a b =
    Decides-like _ (setting_joined a b) (λ e. (ap (λ s. s.state) e, ap (λ s. s.group) e))
    (Decides-and _ _ (state_decided a.state b.state) (group_decided a.group b.group))

pub setting_equiv : IsEquivalence same_setting
setting_equiv = decided same_setting setting_decided

-- or nothing in both
item_decided : (a b : Option Setting) → Decides (option_eq same_setting a b) (a ≡ b)
item_decided (Some a) (Some b) = Decides-like _ (λ e. ap Some e) (λ e. cc) (setting_decided a b)
item_decided None None = (λ e. refl, λ e. refl)
item_decided a b = (λ e. absurd (false≢true e), λ e. cc)

pub settings_decided : (a b : Settings) → Decides (same_settings a b) (a ≡ b)
unfolding same_settings
settings_decided a b = pointwise_decides item_decided a b

pub settings_equiv : IsEquivalence same_settings
settings_equiv = decided same_settings settings_decided
