-- What a flag is set to after one flag was set.
use Rattle.std.proofs.Common.{◌≡◌, ◌≢◌, ◌<◌, ℕ, zero, suc, length, map, List, [], ◌∷◌, slice_index_or, slice_set, Option, None, refl, ap, arith}
use Rattle.vx_flag.proofs.Own.{one_place}
use Rattle.vx_flag.specs.Flag.{flags, flag_index}
use Rattle.vx_flag.specs.Settings.{no_settings, setting_of, put_at, with_setting}
use Rattle.vx_flag.specs.declared.flag.Flag.{Flag}
use Rattle.vx_flag.specs.declared.setting.Setting.{Setting}
use Rattle.vx_flag.specs.declared.settings.Settings.{Settings}

-- what is set where nothing is set for any of these flags
unset : List Flag → Settings
unset fs = map (λ f. None) fs

unset_at : (fs : List Flag) (i : ℕ) → slice_index_or (unset fs) i None ≡ None
unfolding unset
unset_at [] i = refl
unset_at (f ∷ fs) zero = refl
unset_at (f ∷ fs) (suc i) = unset_at fs i

-- nothing is set for any flag at first
pub nothing_set : (f : Flag) → setting_of no_settings f ≡ None
unfolding unset
nothing_set f = unset_at flags (flag_index f)

-- at a place that a list has, an item is put by writing it over
pub put_over : (s : Settings) (i : ℕ) (o : Option Setting) → i < length s → slice_set s i o ≡ put_at s i o
put_over [] i o within = absurd (omega (arith, within))
put_over (x ∷ s) zero o within = refl
put_over (x ∷ s) (suc i) o within = ap (λ t. x ∷ t) (put_over s i o (omega (arith, within)))

put_is : (s : Settings) (i : ℕ) (o : Option Setting) → slice_index_or (put_at s i o) i None ≡ o
put_is [] zero o = refl
put_is [] (suc i) o = put_is [] i o
put_is (x ∷ s) zero o = refl
put_is (x ∷ s) (suc i) o = put_is s i o

put_keeps : (s : Settings) (i j : ℕ) (o : Option Setting) → j ≢ i → slice_index_or (put_at s i o) j None ≡ slice_index_or s j None
put_keeps [] zero zero o other = absurd (other refl)
put_keeps [] zero (suc j) o other = refl
put_keeps [] (suc i) zero o other = refl
put_keeps [] (suc i) (suc j) o other = put_keeps [] i j o (λ same. other (ap suc same))
put_keeps (x ∷ s) zero zero o other = absurd (other refl)
put_keeps (x ∷ s) zero (suc j) o other = refl
put_keeps (x ∷ s) (suc i) zero o other = refl
put_keeps (x ∷ s) (suc i) (suc j) o other = put_keeps s i j o (λ same. other (ap suc same))

-- that flag is what it was set to
pub flag_set : (s : Settings) (f : Flag) (o : Option Setting) → setting_of (with_setting s f o) f ≡ o
flag_set s f o = put_is s (flag_index f) o

-- and each other flag is as it was
pub flag_kept : (s : Settings) (f g : Flag) (o : Option Setting) → g ≢ f → setting_of (with_setting s f o) g ≡ setting_of s g
flag_kept s f g o other = put_keeps s (flag_index f) (flag_index g) o (λ same. other (one_place g f same))
