-- The regions that an edit does not name, and the flags that another shape leaves.
use Rattle.std.proofs.Common.{◌≡◌, ◌≢◌, ◌+◌, ℕ, false, nat_eq, if◌then◌else◌, List, Option, Some, None, option_map, refl, ap, sym, ◌∙◌, inl, inr}
use Rattle.std.specs.Option.{option_and_then}
use Rattle.std.proofs.lemmas.Bool.{cases_eq}
use Rattle.vx_flag.specs.declared.flag.Flag.{Flag}
use Rattle.vx_flag.specs.declared.setting.Setting.{Setting}
use Rattle.vx_flag.specs.declared.settings.Settings.{Settings}
use Rattle.vx_flag.specs.Settings.{setting_of}
use Rattle.vx_geom.specs.Outline.{Outline}
use Rattle.vx_geom.specs.Written.{Written, outline_asked}
use Rattle.vx_region.specs.Regions.{RegionData, Regions, region_at, setting_at, with_shape, with_priority, with_parent, with_flag, with_name, without_name}
use Rattle.vx_name.specs.Words.{read_id, read_name}
use Rattle.vx_region.proofs.Changes.{region_changed, region_elsewhere, region_kept}
use Rattle.vx_region.proofs.Globals.{flag_at_large, flag_of_region}
use Rattle.vx_region.proofs.Removals.{region_beside}
use Rattle.vx_policy.specs.Asked.{Asked, Define, Reshape, Remove, Priority, Parent, SetFlag, ClearFlag, Listed, target}
use Rattle.vx_policy.specs.Edits.{given, listed, edited}
use Rattle.vx_policy.specs.Refusals.{numbered, is_definition}
use Rattle.vx_region.specs.declared.roster.Roster.{Roster}
use Rattle.vx_policy.specs.declared.listing.Listing.{Listing}
use Rattle.vx_policy.specs.declared.listing.Listing.TheVariants.{Add, Drop}
use Rattle.vx_policy.proofs.Parts.{kept_given}

-- the region of a number is as before
abbrev SameAt : ℕ → Regions → Regions → Type 0
SameAt m rs s = region_at s m ≡ region_at rs m

-- a definition leaves each region but the new one as it was
pub definition_keeps_others : (rs : Regions) (id : List ℕ) (shape : Written) (m : ℕ) → m ≢ rs.last + 1 → region_at (edited rs (Define id shape)) m ≡ region_at rs m
unfolding edited
definition_keeps_others rs id shape m other =
    kept_given (SameAt m rs) rs (read_id id) _ refl
    (λ word. kept_given (SameAt m rs) rs (outline_asked shape) _ refl (λ outline. region_kept rs word outline m other))

-- flags of the world at large are no part of a region
flags_beside : (rs : Regions) (flags : Settings) (m : ℕ) → SameAt m rs (record rs { global = flags })
unfolding region_at
flags_beside rs flags m = refl

module _ (rs : Regions) (n m : ℕ) (other : m ≢ n) where
  -- what changes at the number that a text has changes at no other
  named : (id : List ℕ) (change : ℕ → Regions) → numbered rs id ≡ Some n → SameAt m rs (change n) → SameAt m rs (given rs (numbered rs id) change)
  named id change is kept = ap (λ o. region_at (given rs o change) m) is ∙ kept

  flagged : (f : Flag) (o : Option Setting) → SameAt m rs (with_flag rs n f o)
  flagged f o =
      elim (cases_eq n 0) [
        | inl zero ↦ ap (λ s. region_at s m) (flag_at_large rs n f o zero) ∙ flags_beside rs _ m
        | inr region ↦ ap (λ s. region_at s m) (flag_of_region rs n f o region) ∙ region_elsewhere _ n m rs other
      ]

  name_listed : (roster : Roster) (listing : Listing) (name : List ℕ) → SameAt m rs (listed rs n roster listing name)
  unfolding with_name without_name
  name_listed roster Add name = region_elsewhere _ n m rs other
  name_listed roster Drop name = region_elsewhere _ n m rs other

  -- an edit leaves each region but the one that it names as it was
  others_kept : (e : Asked) → is_definition e ≡ false → numbered rs (target e) ≡ Some n → region_at (edited rs e) m ≡ region_at rs m
  unfolding edited with_shape with_priority with_parent
  others_kept (Define id shape) old is = cc
  others_kept (Reshape id shape) old is =
      named id _ is (kept_given (SameAt m rs) rs (outline_asked shape) _ refl (λ outline. region_elsewhere _ n m rs other))
  others_kept (Remove id) old is = named id _ is (region_beside rs n m other)
  others_kept (Priority id priority) old is = named id _ is (region_elsewhere _ n m rs other)
  others_kept (Parent id parent) old is = named id _ is (region_elsewhere _ n m rs other)
  others_kept (SetFlag id flag setting) old is = named id _ is (flagged flag (Some setting))
  others_kept (ClearFlag id flag) old is = named id _ is (flagged flag None)
  others_kept (Listed roster id listing name) old is = named id _ is (kept_given (SameAt m rs) rs (read_name name) _ refl (name_listed roster listing))

pub others_are_kept : (rs : Regions) (e : Asked) (n m : ℕ) → is_definition e ≡ false → numbered rs (target e) ≡ Some n → m ≢ n → region_at (edited rs e) m ≡ region_at rs m
others_are_kept rs e n m old is other = others_kept rs n m other e old is

-- what a region sets for a flag
abbrev own : Flag → RegionData → Option Setting
own f r = setting_of r.settings f

reshaped : (f : Flag) (outline : Outline) (o : Option RegionData) → option_and_then (own f) (option_map (λ (r : RegionData). record r { shape = outline }) o) ≡ option_and_then (own f) o
reshaped f outline None = refl
reshaped f outline (Some r) = refl

flags_there : (rs : Regions) (n m : ℕ) (f : Flag) (outline : Outline) → option_and_then (own f) (region_at (with_shape rs n outline) m) ≡ option_and_then (own f) (region_at rs m)
unfolding with_shape
flags_there rs n m f outline =
    elim (cases_eq m n) [
      | inl same ↦
          ap (λ k. option_and_then (own f) (region_at (with_shape rs n outline) k)) same
          ∙ ap (option_and_then (own f)) (region_changed _ n rs)
          ∙ reshaped f outline (region_at rs n)
          ∙ ap (λ k. option_and_then (own f) (region_at rs k)) (sym same)
      | inr other ↦ ap (option_and_then (own f)) (region_elsewhere _ n m rs other)
    ]

-- another shape leaves each flag of each region as it was
flags_kept : (rs : Regions) (n m : ℕ) (f : Flag) (outline : Outline) → setting_at (with_shape rs n outline) m f ≡ setting_at rs m f
unfolding setting_at with_shape
flags_kept rs n m f outline = ap (λ o. if nat_eq m 0 then setting_of rs.global f else o) (flags_there rs n m f outline)

pub flags_survive_a_reshape : (rs : Regions) (id : List ℕ) (shape : Written) (m : ℕ) (f : Flag) → setting_at (edited rs (Reshape id shape)) m f ≡ setting_at rs m f
unfolding edited
flags_survive_a_reshape rs id shape m f =
    kept_given (λ s. setting_at s m f ≡ setting_at rs m f) rs (numbered rs id) _ refl
    (λ n. kept_given (λ s. setting_at s m f ≡ setting_at rs m f) rs (outline_asked shape) _ refl (flags_kept rs n m f))
