-- A flag that is set nowhere stays so behind each edit that does not set it.
use Rattle.std.proofs.Common.{◌≡◌, ℕ, ◌+◌, ◌<◌, true, false, Bool, cond, ◌||◌, nat_eq, if◌then◌else◌, List, [], ◌∷◌, ◌++◌, filter, Option, Some, None, is_some, refl, ap, sym, ◌∙◌, inl, inr, subst, arith, length}
use Rattle.std.specs.List.{list_any, slice_index_or}
use Rattle.std.proofs.lemmas.Bool.{cases_eq}
use Rattle.std.proofs.lemmas.List.{get_or_default}
use Rattle.vx_flag.specs.declared.flag.Flag.{Flag}
use Rattle.vx_flag.specs.declared.setting.Setting.{Setting}
use Rattle.vx_flag.specs.Flag.{flag_index}
use Rattle.vx_flag.specs.declared.settings.Settings.{Settings}
use Rattle.vx_flag.specs.Settings.{setting_of, with_setting}
use Rattle.vx_flag.proofs.SettingLemmas.{nothing_set, flag_set, flag_kept}
use Rattle.vx_flag.proofs.Own.{one_place}
use Rattle.vx_geom.specs.Outline.{Outline}
use Rattle.vx_geom.specs.Written.{outline_asked}
use Rattle.vx_decide.specs.Unset.{IsUnset, sets}
use Rattle.vx_region.specs.declared.roster.Roster.{Roster}
use Rattle.vx_region.specs.declared.roster.Roster.TheVariants.{Owners, Members, Domains}
use Rattle.vx_region.specs.Regions.{RegionData, Entry, Regions, no_regions, setting_at, changed, changed_at, gaining, losing, with_region, without_region, with_shape, with_priority, with_parent, with_flag, with_name, without_name}
use Rattle.vx_name.specs.Words.{read_id, read_name}
use Rattle.vx_region.proofs.Globals.{flag_at_large, flag_of_region}
use Rattle.vx_policy.specs.Asked.{Asked, Define, Reshape, Remove, Priority, Parent, SetFlag, ClearFlag, Listed}
use Rattle.vx_policy.specs.Edits.{listed, edited}
use Rattle.vx_policy.specs.Refusals.{numbered}
use Rattle.vx_policy.specs.Silence.{LeavesUnset}
use Rattle.vx_policy.specs.declared.listing.Listing.{Listing}
use Rattle.vx_policy.specs.declared.listing.Listing.TheVariants.{Add, Drop}
use Rattle.vx_policy.proofs.Parts.{kept_given}

-- without regions no flag is set
pub none_set : (f : Flag) → IsUnset no_regions f
unfolding setting_at
none_set f = record { at_large = nothing_set f; each = refl }

-- what the world at large sets, as the definitions look it up
at_large_is : (rs : Regions) (f : Flag) → setting_at rs 0 f ≡ setting_of rs.global f
unfolding setting_at
at_large_is rs f = refl

neither : (a b : Bool) → (a || b) ≡ false → (a ≡ false) × (b ≡ false)
neither false b e = (refl, e)
neither true b e = cc

-- a change that sets the flag in no region leaves it set in none
module _ (f : Flag) (change : RegionData → RegionData) (silent : (r : RegionData) → is_some (setting_of r.settings f) ≡ false → is_some (setting_of (change r).settings f) ≡ false) (n : ℕ) where
  any_changed : (es : List Entry) → list_any (sets f) es ≡ false → list_any (sets f) (changed_at change n es) ≡ false
  any_changed [] none = refl
  any_changed (e ∷ es) none =
      by (nat_eq n e.0) (neither (sets f e) _ none).0 (any_changed es (neither (sets f e) _ none).1)
    where
      by : (b : Bool) → sets f e ≡ false → list_any (sets f) (changed_at change n es) ≡ false
          → list_any (sets f) ((if b then (e.0, change e.1) else e) ∷ changed_at change n es) ≡ false
      by true here rest = ap (λ b. b || list_any (sets f) (changed_at change n es)) (silent e.1 here) ∙ rest
      by false here rest = ap (λ b. b || list_any (sets f) (changed_at change n es)) here ∙ rest

  changed_silent : (rs : Regions) → IsUnset rs f → IsUnset (changed change n rs) f
  unfolding setting_at
  changed_silent rs unset = record { at_large = unset.at_large; each = any_changed rs.entries unset.each }

-- one more region that sets nothing
any_pushed : (f : Flag) (es : List Entry) (e : Entry) → sets f e ≡ false → list_any (sets f) es ≡ false → list_any (sets f) (es ++ e ∷ []) ≡ false
any_pushed f [] e last none = ap (λ b. b || false) last
any_pushed f (d ∷ es) e last none =
    ap (λ b. b || list_any (sets f) (es ++ e ∷ [])) (neither (sets f d) _ none).0 ∙ any_pushed f es e last (neither (sets f d) _ none).1

-- some regions of these
any_filtered : (f : Flag) (test : Entry → Bool) (es : List Entry) → list_any (sets f) es ≡ false → list_any (sets f) (filter test es) ≡ false
any_filtered f test [] none = refl
any_filtered f test (e ∷ es) none = by (test e) (neither (sets f e) _ none).0 (any_filtered f test es (neither (sets f e) _ none).1)
  where
    by : (b : Bool) → sets f e ≡ false → list_any (sets f) (filter test es) ≡ false → list_any (sets f) (cond b (e ∷ filter test es) (filter test es)) ≡ false
    by true here rest = ap (λ b. b || list_any (sets f) (filter test es)) here ∙ rest
    by false here rest = rest

module _ (rs : Regions) (f : Flag) (unset : IsUnset rs f) where
  defined_silent : (id : List ℕ) (shape : Outline) → IsUnset (with_region rs id shape) f
  unfolding with_region setting_at
  defined_silent id shape = record {
    at_large = unset.at_large;
    each = any_pushed f rs.entries _ (ap is_some (nothing_set f)) unset.each;
  }

  removed_silent : (n : ℕ) → IsUnset (without_region rs n) f
  unfolding without_region setting_at
  removed_silent n = record { at_large = unset.at_large; each = any_filtered f _ rs.entries unset.each }

  gained : (roster : Roster) (name : List ℕ) (r : RegionData) → is_some (setting_of r.settings f) ≡ false → is_some (setting_of (gaining roster name r).settings f) ≡ false
  gained Owners name r none = none
  gained Members name r none = none
  gained Domains name r none = none

  lost : (roster : Roster) (name : List ℕ) (r : RegionData) → is_some (setting_of r.settings f) ≡ false → is_some (setting_of (losing roster name r).settings f) ≡ false
  lost Owners name r none = none
  lost Members name r none = none
  lost Domains name r none = none

  listed_silent : (n : ℕ) (roster : Roster) (listing : Listing) (name : List ℕ) → IsUnset (listed rs n roster listing name) f
  unfolding with_name without_name
  listed_silent n roster Add name = changed_silent f (gaining roster name) (gained roster name) n rs unset
  listed_silent n roster Drop name = changed_silent f (losing roster name) (lost roster name) n rs unset

  -- a flag that is set to nothing, or another one
  module _ (n : ℕ) (g : Flag) (o : Option Setting) (quiet : (s : Settings) → is_some (setting_of s f) ≡ false → is_some (setting_of (with_setting s g o) f) ≡ false) where
    at_large_silent : is_some (setting_of (with_setting rs.global g o) f) ≡ false
    at_large_silent = quiet rs.global (ap is_some (sym (at_large_is rs f) ∙ unset.at_large))

    nothing : (s : Option Setting) → is_some s ≡ false → s ≡ None
    nothing None none = refl
    nothing (Some s) none = cc

    with_global : IsUnset (record rs { global = with_setting rs.global g o }) f
    unfolding setting_at
    with_global = record { at_large = nothing _ at_large_silent; each = unset.each }

    flagged : IsUnset (with_flag rs n g o) f
    flagged =
        elim (cases_eq n 0) [
          | inl zero ↦ subst (λ (us : Regions). IsUnset us f) (sym (flag_at_large rs n g o zero)) with_global
          | inr region ↦ subst (λ (us : Regions). IsUnset us f) (sym (flag_of_region rs n g o region))
              (changed_silent f _ (λ r none. quiet r.settings none) n rs unset)
        ]

-- cleared flags, and other ones
cleared : (s : Settings) (f g : Flag) → is_some (setting_of s f) ≡ false → is_some (setting_of (with_setting s g None) f) ≡ false
cleared s f g none =
    elim (cases_eq (flag_index f) (flag_index g)) [
      | inl same ↦ subst (λ h. is_some (setting_of (with_setting s g None) h) ≡ false) (sym (one_place f g same)) (ap is_some (flag_set s g None))
      | inr other ↦ ap is_some (flag_kept s g f None (λ same. other (ap flag_index same))) ∙ none
    ]

-- an edit that does not set the flag leaves it set nowhere
pub unset_stays : (rs : Regions) (e : Asked) (f : Flag) → IsUnset rs f → LeavesUnset e f → IsUnset (edited rs e) f
unfolding edited with_shape with_priority with_parent
unset_stays rs (Define id shape) f unset other =
    kept_given (λ us. IsUnset us f) rs (read_id id) _ unset
    (λ word. kept_given (λ us. IsUnset us f) rs (outline_asked shape) _ unset (defined_silent rs f unset word))
unset_stays rs (Reshape id shape) f unset other =
    kept_given (λ us. IsUnset us f) rs (numbered rs id) _ unset
    (λ n. kept_given (λ us. IsUnset us f) rs (outline_asked shape) _ unset (λ outline. changed_silent f _ (λ r none. none) n rs unset))
unset_stays rs (Remove id) f unset other = kept_given (λ us. IsUnset us f) rs (numbered rs id) _ unset (removed_silent rs f unset)
unset_stays rs (Priority id priority) f unset other =
    kept_given (λ us. IsUnset us f) rs (numbered rs id) _ unset (λ n. changed_silent f _ (λ r none. none) n rs unset)
unset_stays rs (Parent id parent) f unset other =
    kept_given (λ us. IsUnset us f) rs (numbered rs id) _ unset (λ n. changed_silent f _ (λ r none. none) n rs unset)
unset_stays rs (SetFlag id flag setting) f unset other =
    kept_given (λ us. IsUnset us f) rs (numbered rs id) _ unset
    (λ n. flagged rs f unset n flag (Some setting) (λ s none. ap is_some (flag_kept s flag f (Some setting) other) ∙ none))
unset_stays rs (ClearFlag id flag) f unset other =
    kept_given (λ us. IsUnset us f) rs (numbered rs id) _ unset
    (λ n. flagged rs f unset n flag None (λ s none. cleared s f flag none))
unset_stays rs (Listed roster id listing name) f unset other =
    kept_given (λ us. IsUnset us f) rs (numbered rs id) _ unset
    (λ n. kept_given (λ us. IsUnset us f) rs (read_name name) _ unset (λ word. listed_silent rs f unset n roster listing word))

-- what holds of the elements before one, and of that one
pub one_more : (P : Flag → Type 0) (fs : List Flag) (i : ℕ) (e : Flag) → i < length fs → ((k : ℕ) (d : Flag) → k < i → P (slice_index_or fs k d))
    → P (slice_index_or fs i e) → (k : ℕ) (d : Flag) → k < i + 1 → P (slice_index_or fs k d)
one_more P fs i e within before here k d below = elim (cases_eq k i) [
  | inl same ↦ subst (λ m. P (slice_index_or fs m d)) (sym same) (subst P (get_or_default fs i e d within) here)
  | inr other ↦ before k d (omega (arith, below, other))
]
