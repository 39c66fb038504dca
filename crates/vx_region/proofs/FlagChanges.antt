-- What is set for each flag, in each region and in the world at large, after one flag was set or left unset.
use Rattle.std.proofs.Common.{◌≡◌, ◌≢◌, ◌⊎◌, ℕ, if◌then◌else◌, Option, Some, None, IsSome, option_map, inl, inr, refl, ap, sym, ◌∙◌}
use Rattle.std.specs.Option.{option_and_then}
use Rattle.std.proofs.lemmas.Bool.{ne_eqb, eq-eqb, cases_eq}
use Rattle.vx_flag.specs.declared.flag.Flag.{Flag}
use Rattle.vx_flag.specs.declared.setting.Setting.{Setting}
use Rattle.vx_flag.specs.declared.settings.Settings.{Settings}
use Rattle.vx_flag.specs.Settings.{setting_of, with_setting}
use Rattle.vx_flag.proofs.SettingLemmas.{flag_set, flag_kept}
use Rattle.vx_region.specs.Regions.{RegionData, Regions, region_at, setting_at, HasSettings, changed, with_flag}
use Rattle.vx_region.proofs.Changes.{region_changed, region_elsewhere}
use Rattle.vx_region.proofs.Globals.{flag_at_large, flag_of_region, region_with_settings}

-- what is set for number 0 is what the world at large sets
setting_at_large : (rs : Regions) (n : ℕ) (f : Flag) → n ≡ 0 → setting_at rs n f ≡ setting_of rs.global f
unfolding setting_at
setting_at_large rs n f zero =
    ap (λ b. if b then setting_of rs.global f else option_and_then (λ (r : RegionData). setting_of r.settings f) (region_at rs n)) (eq-eqb n 0 zero)

-- what is set for another number is what its region sets
setting_in_region : (rs : Regions) (n : ℕ) (f : Flag) → n ≢ 0 → setting_at rs n f ≡ option_and_then (λ r. setting_of r.settings f) (region_at rs n)
unfolding setting_at
setting_in_region rs n f other =
    ap (λ b. if b then setting_of rs.global f else option_and_then (λ (r : RegionData). setting_of r.settings f) (region_at rs n)) (ne_eqb n 0 other)

-- what a region sets for a flag, and the region with the flag set otherwise
abbrev own : Flag → RegionData → Option Setting
own f r = setting_of r.settings f

abbrev put : Flag → Option Setting → RegionData → RegionData
put f o r = record r { settings = with_setting r.settings f o }

-- a region that is there sets what was set
set_there : (f : Flag) (o : Option Setting) (found : Option RegionData) → IsSome found → option_and_then (own f) (option_map (put f o) found) ≡ o
set_there f o None there = cc
set_there f o (Some r) there = flag_set r.settings f o

-- and what it set for each other flag
kept_there : (f g : Flag) (o : Option Setting) (found : Option RegionData) → g ≢ f → option_and_then (own g) (option_map (put f o) found) ≡ option_and_then (own g) found
kept_there f g o None other = refl
kept_there f g o (Some r) other = flag_kept r.settings f g o other

-- a flag is what it was set to, where it can be set
pub setting_set : (rs : Regions) (n : ℕ) (f : Flag) (o : Option Setting) → HasSettings rs n → setting_at (with_flag rs n f o) n f ≡ o
setting_set rs n f o has =
    elim (cases_eq n 0) [
      | inl zero ↦ setting_at_large _ n f zero ∙ ap (λ s. setting_of s.global f) (flag_at_large rs n f o zero) ∙ flag_set rs.global f o
      | inr other ↦
          setting_in_region _ n f other
          ∙ ap (λ s. option_and_then (own f) (region_at s n)) (flag_of_region rs n f o other)
          ∙ ap (option_and_then (own f)) (region_changed (put f o) n rs)
          ∙ set_there f o (region_at rs n) (region_with_settings rs n has other)
    ]

-- in the world at large
kept_at_large : (rs : Regions) (n m : ℕ) (f g : Flag) (o : Option Setting) → m ≡ 0 → (m ≢ n) ⊎ (g ≢ f) → setting_of (with_flag rs n f o).global g ≡ setting_of rs.global g
kept_at_large rs n m f g o zero apart =
    elim (cases_eq n 0) [
      | inl also ↦
          ap (λ s. setting_of s.global g) (flag_at_large rs n f o also)
          ∙ flag_kept rs.global f g o (elim apart [ inl other ↦ absurd (other (zero ∙ sym also)) | inr other ↦ other ])
      | inr region ↦ ap (λ s. setting_of s.global g) (flag_of_region rs n f o region)
    ]

-- the same region of another set of flags at large
region_beside : (rs : Regions) (flags : Settings) (m : ℕ) → region_at (record rs { global = flags }) m ≡ region_at rs m
unfolding region_at
region_beside rs flags m = refl

-- in a region
kept_in_region : (rs : Regions) (n m : ℕ) (f g : Flag) (o : Option Setting) → m ≢ 0 → (m ≢ n) ⊎ (g ≢ f)
    → option_and_then (own g) (region_at (with_flag rs n f o) m) ≡ option_and_then (own g) (region_at rs m)
kept_in_region rs n m f g o region apart =
    elim (cases_eq n 0) [
      | inl zero ↦ ap (λ s. option_and_then (own g) (region_at s m)) (flag_at_large rs n f o zero) ∙ ap (option_and_then (own g)) (region_beside rs _ m)
      | inr other ↦ ap (λ s. option_and_then (own g) (region_at s m)) (flag_of_region rs n f o other) ∙ elim (cases_eq m n) [
        | inl same ↦
            ap (λ k. option_and_then (own g) (region_at (changed (put f o) n rs) k)) same
            ∙ ap (option_and_then (own g)) (region_changed (put f o) n rs)
            ∙ kept_there f g o (region_at rs n) (elim apart [ inl differs ↦ absurd (differs same) | inr differs ↦ differs ])
            ∙ ap (λ k. option_and_then (own g) (region_at rs k)) (sym same)
        | inr differs ↦ ap (option_and_then (own g)) (region_elsewhere (put f o) n m rs differs)
      ]
    ]

-- each other flag, and the same flag elsewhere, is as it was
pub setting_kept : (rs : Regions) (n m : ℕ) (f g : Flag) (o : Option Setting) → (m ≢ n) ⊎ (g ≢ f) → setting_at (with_flag rs n f o) m g ≡ setting_at rs m g
setting_kept rs n m f g o apart =
    elim (cases_eq m 0) [
      | inl zero ↦ setting_at_large _ m g zero ∙ kept_at_large rs n m f g o zero apart ∙ sym (setting_at_large rs m g zero)
      | inr region ↦ setting_in_region _ m g region ∙ kept_in_region rs n m f g o region apart ∙ sym (setting_in_region rs m g region)
    ]
