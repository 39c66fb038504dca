-- Edits of regions and edits of the world at large leave one another's part.
use Rattle.std.proofs.Common.{◌≡◌, ℕ, true, false, nat_eq, List, Option, Some, None, true≢false, inl, refl, ap, sym, ◌∙◌}
use Rattle.std.proofs.lemmas.Bool.{eq-eqb}
use borrow.Author.Tests.{eqb-true}
use Rattle.vx_flag.specs.declared.flag.Flag.{Flag}
use Rattle.vx_flag.specs.declared.setting.Setting.{Setting}
use Rattle.vx_geom.specs.Written.{outline_asked}
use Rattle.vx_region.specs.Regions.{Regions, setting_at, with_region, without_region, with_shape, with_priority, with_parent, with_flag, with_name, without_name}
use Rattle.vx_name.specs.Words.{read_id, read_name}
use Rattle.vx_region.specs.declared.roster.Roster.{Roster}
use Rattle.vx_region.proofs.FlagChanges.{setting_kept}
use Rattle.vx_region.proofs.Globals.{flag_at_large}
use Rattle.vx_policy.specs.Asked.{Asked, Define, Reshape, Remove, Priority, Parent, SetFlag, ClearFlag, Listed, target}
use Rattle.vx_policy.specs.Edits.{given, listed, edited}
use Rattle.vx_policy.specs.Refusals.{numbered, is_such, is_at_large, refusal}
use Rattle.vx_policy.specs.declared.listing.Listing.{Listing}
use Rattle.vx_policy.specs.declared.listing.Listing.TheVariants.{Add, Drop}
use Rattle.vx_policy.proofs.Accepted.{local_target}
use Rattle.vx_policy.proofs.Parts.{kept_given}

-- the flag of the world at large is as before
abbrev SameFlag : Flag → Regions → Regions → Type 0
SameFlag f rs s = setting_at s 0 f ≡ setting_at rs 0 f

module _ (rs : Regions) (f : Flag) where
  name_listed : (n : ℕ) (roster : Roster) (listing : Listing) (name : List ℕ) → SameFlag f rs (listed rs n roster listing name)
  unfolding setting_at with_name without_name
  name_listed n roster Add name = refl
  name_listed n roster Drop name = refl

  -- a flag that is set by a number that is not 0
  flagged : (o : Option ℕ) (g : Flag) (setting : Option Setting) → is_such (nat_eq 0) o ≡ false → SameFlag f rs (given rs o (λ n. with_flag rs n g setting))
  flagged None g setting local = refl
  flagged (Some n) g setting local = setting_kept rs n 0 g f setting (inl (λ same. true≢false (sym (eq-eqb 0 n same) ∙ local)))

  flag_kept : (e : Asked) → is_at_large rs (target e) ≡ false → SameFlag f rs (edited rs e)
  unfolding edited setting_at with_region without_region with_shape with_priority with_parent
  flag_kept (Define id shape) local =
      kept_given (SameFlag f rs) rs (read_id id) _ refl (λ word. kept_given (SameFlag f rs) rs (outline_asked shape) _ refl (λ outline. refl))
  flag_kept (Reshape id shape) local =
      kept_given (SameFlag f rs) rs (numbered rs id) _ refl (λ n. kept_given (SameFlag f rs) rs (outline_asked shape) _ refl (λ outline. refl))
  flag_kept (Remove id) local = kept_given (SameFlag f rs) rs (numbered rs id) _ refl (λ n. refl)
  flag_kept (Priority id priority) local = kept_given (SameFlag f rs) rs (numbered rs id) _ refl (λ n. refl)
  flag_kept (Parent id parent) local = kept_given (SameFlag f rs) rs (numbered rs id) _ refl (λ n. refl)
  flag_kept (SetFlag id flag setting) local = flagged (numbered rs id) flag (Some setting) local
  flag_kept (ClearFlag id flag) local = flagged (numbered rs id) flag None local
  flag_kept (Listed roster id listing name) local =
      kept_given (SameFlag f rs) rs (numbered rs id) _ refl (λ n. kept_given (SameFlag f rs) rs (read_name name) _ refl (name_listed n roster listing))

-- an edit that is not of the world at large leaves each flag of it as it was
pub flags_at_large_are_kept : (rs : Regions) (e : Asked) (f : Flag) → is_at_large rs (target e) ≡ false → setting_at (edited rs e) 0 f ≡ setting_at rs 0 f
flags_at_large_are_kept rs e f local = flag_kept rs f e local

-- a flag that is set by number 0 leaves the regions
flag_at_large_only : (rs : Regions) (o : Option ℕ) (f : Flag) (setting : Option Setting) → is_such (nat_eq 0) o ≡ true
    → (given rs o (λ n. with_flag rs n f setting)).entries ≡ rs.entries
flag_at_large_only rs None f setting large = refl
flag_at_large_only rs (Some n) f setting large = ap (λ s. s.entries) (flag_at_large rs n f setting (sym (eqb-true 0 n large)))

-- no other edit of the world at large is accepted, and so all regions are as they were
pub regions_are_kept : (rs : Regions) (e : Asked) → refusal rs e ≡ None → is_at_large rs (target e) ≡ true → (edited rs e).entries ≡ rs.entries
unfolding edited
regions_are_kept rs (SetFlag id flag setting) none large = flag_at_large_only rs (numbered rs id) flag (Some setting) large
regions_are_kept rs (ClearFlag id flag) none large = flag_at_large_only rs (numbered rs id) flag None large
regions_are_kept rs e none large = absurd (true≢false (sym large ∙ local_target rs e none refl))
