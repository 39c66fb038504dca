-- What is known of an edit that nothing stands against.
use Rattle.std.proofs.Common.{◌≡◌, ℕ, zero, suc, Bool, true, false, not, ◌&&◌, ◌||◌, ◌<◌, nat_eq, bytes_eq, List, [], ◌∷◌, find, Option, Some, None, IsSome, is_some, option_map, refl, sym, ap, ◌∙◌, inl, inr}
use Rattle.std.specs.List.{slice_get, list_any}
use Rattle.std.specs.Option.{option_and_then}
use Rattle.std.proofs.lemmas.Bool.{cases_Bool, eq-eqb, leb-false}
use Rattle.vx_geom.specs.Written.{Written, outline_asked}
use Rattle.vx_base.proofs.Lists.{none_found}
use Rattle.vx_region.specs.Ancestry.{has_child, is_under}
use Rattle.vx_region.specs.Regions.{Entry, Regions, region_at, number_of, is_global_id, HasSettings}
use Rattle.vx_name.specs.Words.{read_id, read_name}
use Rattle.vx_policy.specs.Asked.{Asked, Define, Reshape, Remove, Priority, Parent, SetFlag, ClearFlag, Listed, target}
use Rattle.vx_policy.specs.Refusals.{last_number, is_known, is_at_large, numbered, is_such, is_definition, is_of_flags, some_id, is_full, holds, causes, refusal}
use Rattle.vx_region.specs.declared.roster.Roster.{Roster}
use Rattle.vx_policy.specs.declared.listing.Listing.{Listing}
use Rattle.vx_policy.specs.declared.edit_refusal.EditRefusal.{EditRefusal}
use Rattle.vx_policy.specs.declared.edit_refusal.EditRefusal.TheVariants.{BadId, Known, Unknown, HasChildren, Cycle, BadShape, BadName, GlobalHasNone, TooManyRegions}

pub neither : (a b : Bool) → (a || b) ≡ false → (a ≡ false) × (b ≡ false)
neither false b e = (refl, e)
neither true b e = cc

none_passes : {X : Type 0} (p : X → Bool) (xs : List X) (i : ℕ) (x : X) → slice_get xs i ≡ Some x → list_any p xs ≡ false → p x ≡ false
none_passes p [] i x item none = cc
none_passes p (y ∷ xs) zero x item none = let same : y ≡ x = cc in ap p (sym same) ∙ (neither (p y) (list_any p xs) none).0
none_passes p (y ∷ xs) (suc i) x item none = none_passes p xs i x item (neither (p y) (list_any p xs) none).1

-- where an edit is not refused, no cause stands against it
pub nothing_against : (rs : Regions) (e : Asked) → refusal rs e ≡ None → (c : EditRefusal) → holds rs e c ≡ false
unfolding refusal
nothing_against rs e none c = at_cause c (none_found (holds rs e) causes none)
  where
    at_cause : (c : EditRefusal) → list_any (holds rs e) causes ≡ false → holds rs e c ≡ false
    at_cause BadId h = none_passes (holds rs e) causes 0 BadId refl h
    at_cause BadName h = none_passes (holds rs e) causes 1 BadName refl h
    at_cause BadShape h = none_passes (holds rs e) causes 2 BadShape refl h
    at_cause Known h = none_passes (holds rs e) causes 3 Known refl h
    at_cause Unknown h = none_passes (holds rs e) causes 4 Unknown refl h
    at_cause GlobalHasNone h = none_passes (holds rs e) causes 5 GlobalHasNone refl h
    at_cause HasChildren h = none_passes (holds rs e) causes 6 HasChildren refl h
    at_cause Cycle h = none_passes (holds rs e) causes 7 Cycle refl h
    at_cause TooManyRegions h = none_passes (holds rs e) causes 8 TooManyRegions refl h

pub holds_not : (b : Bool) → not b ≡ false → b ≡ true
holds_not true e = refl
holds_not false e = cc

spelled_or : {A : Type 0} (o : Option A) → o ≡ None → is_some o ≡ true → ⊥
spelled_or None none some = cc
spelled_or (Some x) none some = cc

entry_there : (id : List ℕ) (es : List Entry) (n : ℕ) → option_map (λ e. e.0) (find (λ e. bytes_eq id e.1.id) es) ≡ Some n → IsSome (option_map (λ e. e.1) (find (λ e. nat_eq n e.0) es))
entry_there id [] n found = cc
entry_there id (e ∷ es) n found =
    elim (cases_Bool (nat_eq n e.0)) [
      | inl same ↦ rw same refl
      | inr other ↦ rw other (elim (cases_Bool (bytes_eq id e.1.id)) [
        | inl here ↦ (let first : Some e.0 ≡ Some n = rw here at found in let equal : n ≡ e.0 = cc in absurd (clash other (eq-eqb n e.0 equal)))
        | inr further ↦ entry_there id es n (rw further at found)
      ])
    ]
  where
    clash : {b : Bool} → b ≡ false → b ≡ true → ⊥
    clash f t = cc

-- a number that an id has is that of a region, or 0
pub number_there : (rs : Regions) (id : List ℕ) (n : ℕ) → number_of rs id ≡ Some n → HasSettings rs n
unfolding number_of region_at
number_there rs id n found =
    elim (cases_Bool (is_global_id id)) [
      | inl at_large ↦ (let none : Some 0 ≡ Some n = rw at_large at found in let zero : n ≡ 0 = cc in inl zero)
      | inr local ↦ inr (entry_there id rs.entries n (rw local at found))
    ]

-- so is the number that a text has
pub numbered_there : (rs : Regions) (text : List ℕ) (n : ℕ) → numbered rs text ≡ Some n → HasSettings rs n
numbered_there rs text n found = of_id (read_id text) found
  where
    of_id : (word : Option (List ℕ)) → option_and_then (number_of rs) word ≡ Some n → HasSettings rs n
    of_id None h = cc
    of_id (Some id) h = number_there rs id n h

-- a number that is not 0 is that of a region
pub region_there : (rs : Regions) (text : List ℕ) (n : ℕ) → numbered rs text ≡ Some n → is_at_large rs text ≡ false → HasSettings rs n → IsSome (region_at rs n)
region_there rs text n found local (inr there) = there
region_there rs text n found local (inl none) = let zero : nat_eq 0 n ≡ false = rw found at local in absurd (no_zero n none zero)
  where
    no_zero : (n : ℕ) → n ≡ 0 → nat_eq 0 n ≡ false → ⊥
    no_zero n none other = let same : nat_eq 0 n ≡ true = rw none refl in cc

the_target : (test : List ℕ → Bool) (e : Asked) → some_id test e ≡ false → test (target e) ≡ false
the_target test (Define id shape) h = h
the_target test (Reshape id shape) h = h
the_target test (Remove id) h = h
the_target test (Priority id priority) h = h
the_target test (Parent id parent) h = (neither (test id) (is_such test parent) h).0
the_target test (SetFlag id flag setting) h = h
the_target test (ClearFlag id flag) h = h
the_target test (Listed roster id listing name) h = h

other_than : (a b : Bool) → a ≡ false → (not a && b) ≡ false → b ≡ false
other_than false b a h = h
other_than true b a h = cc

-- the region that an edit names is there
pub known_target : (rs : Regions) (e : Asked) → refusal rs e ≡ None → is_definition e ≡ false → is_known rs (target e) ≡ true
known_target rs e none old =
    holds_not _ (the_target (λ id. not (is_known rs id)) e (other_than (is_definition e) _ old (nothing_against rs e none Unknown)))

-- what an edit names is not the world at large, but for flags
pub local_target : (rs : Regions) (e : Asked) → refusal rs e ≡ None → is_of_flags e ≡ false → is_at_large rs (target e) ≡ false
local_target rs e none other = the_target (is_at_large rs) e (other_than (is_of_flags e) _ other (nothing_against rs e none GlobalHasNone))

module _ (rs : Regions) (id parent : List ℕ) (none : refusal rs (Parent id (Some parent)) ≡ None) where
  -- so is a parent
  pub known_parent : is_known rs parent ≡ true
  known_parent = holds_not _ (neither (not (is_known rs id)) _ (nothing_against rs (Parent id (Some parent)) none Unknown)).1

  pub local_parent : is_at_large rs parent ≡ false
  local_parent = (neither (is_at_large rs id) _ (nothing_against rs (Parent id (Some parent)) none GlobalHasNone)).1

  -- and it does not lead back
  pub parent_leads_on : (n q : ℕ) → numbered rs id ≡ Some n → numbered rs parent ≡ Some q → is_under rs q n ≡ false
  parent_leads_on n q named above = rw (named, above) at (nothing_against rs (Parent id (Some parent)) none Cycle)

-- a region that is to go has no child
pub childless : (rs : Regions) (id : List ℕ) (n : ℕ) → refusal rs (Remove id) ≡ None → numbered rs id ≡ Some n → has_child rs n ≡ false
childless rs id n none named = rw named at (nothing_against rs (Remove id) none HasChildren)

absent : (o : Option ℕ) → is_some o ≡ false → o ≡ None
absent None h = refl
absent (Some n) h = cc

module _ (rs : Regions) (id : List ℕ) (shape : Written) (none : refusal rs (Define id shape) ≡ None) where
  -- a new id is spelled, and free
  pub new_id : (word : List ℕ) → read_id id ≡ Some word → number_of rs word ≡ None
  new_id word spelled = absent (number_of rs word) (rw spelled at (nothing_against rs (Define id shape) none Known))

  -- there is a number for it
  pub room_left : rs.last < last_number
  unfolding is_full
  room_left = leb-false _ _ (neither _ _ (nothing_against rs (Define id shape) none TooManyRegions)).1

  -- the id is spelled, and the shape is one
  pub id_spelled : read_id id ≡ None → ⊥
  id_spelled misspelled = spelled_or (read_id id) misspelled (holds_not _ (nothing_against rs (Define id shape) none BadId))

  pub shape_there : outline_asked shape ≡ None → ⊥
  shape_there nothing = spelled_or (outline_asked shape) nothing (holds_not _ (nothing_against rs (Define id shape) none BadShape))

-- so for another shape
pub new_shape : (rs : Regions) (id : List ℕ) (shape : Written) → refusal rs (Reshape id shape) ≡ None → outline_asked shape ≡ None → ⊥
new_shape rs id shape none nothing = spelled_or (outline_asked shape) nothing (holds_not _ (nothing_against rs (Reshape id shape) none BadShape))

-- the name is spelled
pub name_spelled : (rs : Regions) (roster : Roster) (id : List ℕ) (listing : Listing) (name : List ℕ)
    → refusal rs (Listed roster id listing name) ≡ None → read_name name ≡ None → ⊥
name_spelled rs roster id listing name none misspelled =
    spelled_or (read_name name) misspelled (holds_not _ (nothing_against rs (Listed roster id listing name) none BadName))
