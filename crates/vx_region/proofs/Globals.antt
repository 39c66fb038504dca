-- The flags of the world at large, which has number 0: they are no part of what keeps a set of regions a forest.
use Rattle.std.proofs.Common.{◌≡◌, ◌≢◌, ℕ, if◌then◌else◌, Option, IsSome, inl, inr, ap, refl}
use Rattle.std.proofs.lemmas.Bool.{ne_eqb, eq-eqb}
use Rattle.vx_flag.specs.declared.flag.Flag.{Flag}
use Rattle.vx_flag.specs.declared.setting.Setting.{Setting}
use Rattle.vx_flag.specs.declared.settings.Settings.{Settings}
use Rattle.vx_flag.specs.Settings.{with_setting}
use Rattle.vx_region.specs.Regions.{Regions, region_at, parent_of, HasSettings, changed, with_flag}
use Rattle.vx_region.specs.Forest.{IsNumbered, IsForest}
use Rattle.vx_region.proofs.Chains.{forest_kept}

numbered_with_flags : (rs : Regions) (flags : Settings) → IsNumbered rs → IsNumbered (record rs { global = flags })
numbered_with_flags rs flags numbered = record { ascending = numbered.ascending; given = numbered.given }

-- other flags of the world at large
pub forest_with_flags : (rs : Regions) (flags : Settings) → IsForest rs → IsForest (record rs { global = flags })
unfolding region_at parent_of
forest_with_flags rs flags forest =
    forest_kept rs (record rs { global = flags }) (numbered_with_flags rs flags forest.numbered) (λ r. inl refl) (λ r q has there. there) forest

-- number 0 is the world at large
pub flag_at_large : (rs : Regions) (n : ℕ) (f : Flag) (o : Option Setting) → n ≡ 0 → with_flag rs n f o ≡ record rs { global = with_setting rs.global f o }
unfolding with_flag
flag_at_large rs n f o zero =
    ap (λ b. if b then record rs { global = with_setting rs.global f o } else changed (λ r. record r { settings = with_setting r.settings f o }) n rs) (eq-eqb n 0 zero)

-- each other number is that of a region
pub flag_of_region : (rs : Regions) (n : ℕ) (f : Flag) (o : Option Setting) → n ≢ 0
    → with_flag rs n f o ≡ changed (λ r. record r { settings = with_setting r.settings f o }) n rs
unfolding with_flag
flag_of_region rs n f o other =
    ap (λ b. if b then record rs { global = with_setting rs.global f o } else changed (λ r. record r { settings = with_setting r.settings f o }) n rs) (ne_eqb n 0 other)

pub region_with_settings : (rs : Regions) (n : ℕ) → HasSettings rs n → n ≢ 0 → IsSome (region_at rs n)
region_with_settings rs n has other = elim has [ inl zero ↦ absurd (other zero) | inr there ↦ there ]
