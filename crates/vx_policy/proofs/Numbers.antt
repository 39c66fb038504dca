-- The numbers that definitions give.
use Rattle.std.proofs.Common.{◌≡◌, ◌<◌, ◌≤◌, ◌+◌, ℕ, Bool, true, false, nat_eq, if◌then◌else◌, List, [], ◌∷◌, Option, Some, None, arith, refl, ◌∙◌}
use Rattle.vx_flag.specs.declared.flag.Flag.{Flag}
use Rattle.vx_flag.specs.declared.setting.Setting.{Setting}
use Rattle.vx_flag.specs.Settings.{with_setting}
use Rattle.vx_geom.specs.Outline.{Outline}
use Rattle.vx_geom.specs.Written.{Written, outline_asked}
use Rattle.vx_region.specs.Regions.{Regions, changed, with_region, without_region, with_shape, with_priority, with_parent, with_flag, with_name, without_name}
use Rattle.vx_name.specs.Words.{read_id, read_name}
use Rattle.vx_policy.specs.Asked.{Asked, Define, Reshape, Remove, Priority, Parent, SetFlag, ClearFlag, Listed}
use Rattle.vx_policy.specs.Edits.{given, listed, edited, number_given, after}
use Rattle.vx_policy.specs.Refusals.{numbered, refusal}
use Rattle.vx_region.specs.declared.roster.Roster.{Roster}
use Rattle.vx_policy.specs.declared.listing.Listing.{Listing}
use Rattle.vx_policy.specs.declared.listing.Listing.TheVariants.{Add, Drop}
use Rattle.vx_policy.proofs.Accepted.{id_spelled, shape_there}
use Rattle.vx_policy.proofs.Parts.{kept_given}

-- the last number is that of these regions
abbrev SameLast : Regions → Regions → Type 0
SameLast rs s = s.last ≡ rs.last

flagged : (rs : Regions) (n : ℕ) (f : Flag) (o : Option Setting) → SameLast rs (with_flag rs n f o)
unfolding with_flag
flagged rs n f o = by (nat_eq n 0)
  where
    by : (b : Bool) → SameLast rs (if b then record rs { global = with_setting rs.global f o } else changed (λ r. record r { settings = with_setting r.settings f o }) n rs)
    by true = refl
    by false = refl

name_listed : (rs : Regions) (n : ℕ) (roster : Roster) (listing : Listing) (name : List ℕ) → SameLast rs (listed rs n roster listing name)
unfolding with_name without_name
name_listed rs n roster Add name = refl
name_listed rs n roster Drop name = refl

-- an edit that gives no number leaves the last one as it was
pub last_is_kept : (rs : Regions) (e : Asked) → number_given rs e ≡ None → (edited rs e).last ≡ rs.last
unfolding edited without_region with_shape with_priority with_parent
last_is_kept rs (Define id shape) none = cc
last_is_kept rs (Reshape id shape) none =
    kept_given (SameLast rs) rs (numbered rs id) _ refl (λ n. kept_given (SameLast rs) rs (outline_asked shape) _ refl (λ outline. refl))
last_is_kept rs (Remove id) none = kept_given (SameLast rs) rs (numbered rs id) _ refl (λ n. refl)
last_is_kept rs (Priority id priority) none = kept_given (SameLast rs) rs (numbered rs id) _ refl (λ n. refl)
last_is_kept rs (Parent id parent) none = kept_given (SameLast rs) rs (numbered rs id) _ refl (λ n. refl)
last_is_kept rs (SetFlag id flag setting) none = kept_given (SameLast rs) rs (numbered rs id) _ refl (λ n. flagged rs n flag (Some setting))
last_is_kept rs (ClearFlag id flag) none = kept_given (SameLast rs) rs (numbered rs id) _ refl (λ n. flagged rs n flag None)
last_is_kept rs (Listed roster id listing name) none =
    kept_given (SameLast rs) rs (numbered rs id) _ refl (λ n. kept_given (SameLast rs) rs (read_name name) _ refl (name_listed rs n roster listing))

-- a number that is given is above all that were given
pub number_is_new : (rs : Regions) (e : Asked) (n : ℕ) → number_given rs e ≡ Some n → rs.last < n
number_is_new rs (Define id shape) n is = let next : rs.last + 1 ≡ n = cc in omega (arith, next)
number_is_new rs e n is = cc

-- the last number after a definition
last_defined : (rs : Regions) (id : List ℕ) (shape : Written) → refusal rs (Define id shape) ≡ None → (edited rs (Define id shape)).last ≡ rs.last + 1
unfolding edited with_region
last_defined rs id shape none = spelled (read_id id) refl
  where
    outlined : (word : List ℕ) (outline : Option Outline) → outline_asked shape ≡ outline → (given rs outline (with_region rs word)).last ≡ rs.last + 1
    outlined word None is = absurd (shape_there rs id shape none is)
    outlined word (Some outline) is = refl

    spelled : (word : Option (List ℕ)) → read_id id ≡ word → (given rs word (λ w. given rs (outline_asked shape) (with_region rs w))).last ≡ rs.last + 1
    spelled None is = absurd (id_spelled rs id shape none is)
    spelled (Some word) is = outlined word (outline_asked shape) refl

-- it is the last one from then on
pub number_is_the_last : (rs : Regions) (e : Asked) (n : ℕ) → refusal rs e ≡ None → number_given rs e ≡ Some n → (edited rs e).last ≡ n
number_is_the_last rs (Define id shape) n none is = let next : rs.last + 1 ≡ n = cc in last_defined rs id shape none ∙ next
number_is_the_last rs e n none is = cc

-- the last number never falls
grows : (rs : Regions) (id : List ℕ) (shape : Written) → rs.last ≤ (edited rs (Define id shape)).last
unfolding edited with_region
grows rs id shape =
    kept_given (λ s. rs.last ≤ s.last) rs (read_id id) _ (omega arith) (λ word. kept_given (λ s. rs.last ≤ s.last) rs (outline_asked shape) _ (omega arith) (λ outline. omega arith))

same_or_more : (k n : ℕ) → k ≡ n → n ≤ k
same_or_more k n same = omega (arith, same)

pub last_never_falls : (rs : Regions) (e : Asked) → rs.last ≤ (edited rs e).last
last_never_falls rs (Define id shape) = grows rs id shape
last_never_falls rs e = same_or_more _ _ (last_is_kept rs e refl)

last_after : (rs : Regions) (es : List Asked) → rs.last ≤ (after rs es).last
last_after rs [] = omega arith
last_after rs (e ∷ es) = omega (arith, last_never_falls rs e, last_after (edited rs e) es)

-- a number that is given later is higher
pub later_numbers_are_higher : (rs : Regions) (e : Asked) (es : List Asked) (later : Asked) (n m : ℕ) → refusal rs e ≡ None → number_given rs e ≡ Some n
    → number_given (after (edited rs e) es) later ≡ Some m → n < m
later_numbers_are_higher rs e es later n m none is further =
    omega (arith, number_is_the_last rs e n none is, last_after (edited rs e) es, number_is_new (after (edited rs e) es) later m further)
