-- What a walk finds among regions that suffice at a place is what it finds among all, since each test asks whether the region is there.
use Rattle.std.proofs.Common.{◌≡◌, ℕ, ℤ, Bool, true, false, ◌&&◌, if◌then◌else◌, cond, not, List, [], ◌∷◌, Option, Some, None, refl, ap, sym, ◌∙◌, true≢false}
use Rattle.std.specs.List.{filter, list_any}
use Rattle.std.proofs.lemmas.Bool.{and_parts, false_from_ne_true}
use Rattle.std.proofs.lemmas.Map.Views.{any-filter_same}
use Rattle.vx_geom.specs.declared.pos.Pos.{Pos}
use Rattle.vx_geom.specs.Outline.{is_in}
use Rattle.vx_region.specs.Ancestry.{is_above}
use Rattle.vx_region.specs.Association.{share_domain, stands_in_domain}
use Rattle.vx_region.specs.Regions.{Entry, Regions}
use Rattle.vx_decide.specs.declared.question.Question.{Question}
use Rattle.vx_decide.specs.declared.question.Question.TheVariants.{OnBuilding}
use Rattle.vx_decide.specs.Build.{is_home, is_satisfied, is_failing, first_home, first_failing}
use Rattle.vx_decide.specs.Candidates.{Suffice}
use Rattle.vx_decide.specs.Cases.{Case}
use Rattle.vx_decide.specs.Query.{contains, counts, is_top, speaks, is_taken, is_denying, first_denying, first_taken}
use Rattle.vx_decide.specs.RegionGroups.{Members, lesser, least, is_above_one}
use Rattle.vx_decide.specs.Tops.{raised, top_from, top}
use Rattle.vx_decide.proofs.Membership.{home_parts}
use Rattle.vx_decide.proofs.Taken.{counts_parts, top_parts, speaks_parts, denying_parts, taken_contains}

module _ (c f : Members) (only : (e : Entry) → f e ≡ true → c e ≡ true) where
  -- what is not kept does not pass
  fails_out : (e : Entry) → c e ≡ false → f e ≡ false
  fails_out e out = false_from_ne_true (f e) λ passes. true≢false (sym (only e passes) ∙ out)

  -- the greatest and the least of those that pass are kept
  kept_top : (best : Option ℤ) (es : List Entry) → top_from f best (filter c es) ≡ top_from f best es
  kept_top best [] = refl
  kept_top best (e ∷ es) = by (c e) refl (λ o. kept_top o es)
    where
      by : (b : Bool) → c e ≡ b → ((o : Option ℤ) → top_from f o (filter c es) ≡ top_from f o es)
          → top_from f best (cond b (e ∷ filter c es) (filter c es)) ≡ top_from f best (e ∷ es)
      by true is rest = rest (if f e then Some (raised best e.1.priority) else best)
      by false is rest = rest best ∙ sym (ap (λ b. top_from f (if b then Some (raised best e.1.priority) else best) es) (fails_out e is))

  kept_least : (es : List Entry) → least f (filter c es) ≡ least f es
  kept_least [] = refl
  kept_least (e ∷ es) = by (c e) refl (kept_least es)
    where
      by : (b : Bool) → c e ≡ b → least f (filter c es) ≡ least f es → least f (cond b (e ∷ filter c es) (filter c es)) ≡ least f (e ∷ es)
      by true is rest = ap (λ o. if f e then Some (lesser e.0 o) else o) rest
      by false is rest = rest ∙ sym (ap (λ b. if b then Some (lesser e.0 (least f es)) else least f es) (fails_out e is))

-- the test passes only where the region contains the position
abbrev Asks : Pos → Members → Type 0
Asks p f = (e : Entry) → f e ≡ true → is_in e.1.shape p ≡ true

module _ (p : Pos) (es these : List Entry) (suffice : Suffice es p these) (f : Members) (asks : Asks p f) where
  same_any : list_any f these ≡ list_any f es
  same_any =
      sym (any-filter_same f (λ e. is_in e.1.shape p) true asks these)
      ∙ ap (list_any f) suffice.same
      ∙ any-filter_same f (λ e. is_in e.1.shape p) true asks es

  same_least : least f these ≡ least f es
  same_least =
      sym (kept_least (λ e. is_in e.1.shape p) f asks these) ∙ ap (least f) suffice.same ∙ kept_least (λ e. is_in e.1.shape p) f asks es

  same_top : top_from f None these ≡ top_from f None es
  same_top =
      sym (kept_top (λ e. is_in e.1.shape p) f asks None these)
      ∙ ap (top_from f None) suffice.same
      ∙ kept_top (λ e. is_in e.1.shape p) f asks None es

-- what counts contains the place, and so does what is taken or of highest priority
counts_there : (q : Question) (a : Case) → Asks a.place (counts q a)
unfolding contains
counts_there q a e is = (counts_parts q a e is).0

taken_there : (q : Question) (a : Case) → Asks a.place (is_taken q a)
unfolding contains
taken_there q a e is = taken_contains q a e is

top_there : (q : Question) (a : Case) → Asks a.place (is_top q a)
top_there q a e is = counts_there q a e (top_parts q a e is).1

module _ (q : Question) (a : Case) (these : List Entry) (suffice : Suffice a.regions.entries a.place these) where
  pub top_of_all : top_from (counts q a) None these ≡ top (counts q a) a.regions.entries
  unfolding top
  top_of_all = same_top a.place a.regions.entries these suffice (counts q a) (counts_there q a)

  pub denying_of_all : least (is_denying q a) these ≡ first_denying q a
  unfolding first_denying
  denying_of_all = same_least a.place a.regions.entries these suffice (is_denying q a) there
    where
      there : Asks a.place (is_denying q a)
      there e is = taken_there q a e (denying_parts q a e is).1

  pub taken_of_all : least (is_taken q a) these ≡ first_taken q a
  unfolding first_taken
  taken_of_all = same_least a.place a.regions.entries these suffice (is_taken q a) (taken_there q a)

  pub speaking_of_all : (n : ℕ) → list_any (λ d. is_above a.regions n d.1 && speaks q a d) these ≡ is_above_one (speaks q a) a.regions n
  unfolding is_above_one
  speaking_of_all n = same_any a.place a.regions.entries these suffice (λ d. is_above a.regions n d.1 && speaks q a d) there
    where
      there : Asks a.place (λ d. is_above a.regions n d.1 && speaks q a d)
      there e is = top_there q a e (speaks_parts q a e (and_parts (is_above a.regions n e.1) (speaks q a e) is).1).0

module _ (a : Case) (these : List Entry) (suffice : Suffice a.regions.entries a.place these) where
  pub failing_of_all : least (is_failing a) these ≡ first_failing a
  unfolding first_failing is_failing
  failing_of_all = same_least a.place a.regions.entries these suffice (is_failing a) there
    where
      there : Asks a.place (is_failing a)
      there e is = top_there OnBuilding a e (and_parts (is_top OnBuilding a e) (not (is_satisfied a e.0)) is).0

  pub home_of_all : least (is_home a) these ≡ first_home a
  unfolding first_home
  home_of_all = same_least a.place a.regions.entries these suffice (is_home a) there
    where
      there : Asks a.place (is_home a)
      there e is = top_there OnBuilding a e (home_parts a e is).1

  pub homes_of_all : (n : ℕ) → list_any (λ d. is_above a.regions n d.1 && is_home a d) these ≡ is_above_one (is_home a) a.regions n
  unfolding is_above_one
  homes_of_all n = same_any a.place a.regions.entries these suffice (λ d. is_above a.regions n d.1 && is_home a d) there
    where
      there : Asks a.place (λ d. is_above a.regions n d.1 && is_home a d)
      there e is = top_there OnBuilding a e (home_parts a e (and_parts (is_above a.regions n e.1) (is_home a e) is).1).1

-- a domain is shared with a region where a machine stands, wherever all of these are looked at
pub domains_of_all : (rs : Regions) (p : Pos) (these : List Entry) → Suffice rs.entries p these → (n : ℕ)
    → list_any (λ e. is_in e.1.shape p && share_domain rs e.0 n) these ≡ stands_in_domain rs p n
unfolding stands_in_domain
domains_of_all rs p these suffice n =
    same_any p rs.entries these suffice (λ e. is_in e.1.shape p && share_domain rs e.0 n)
    (λ e is. (and_parts (is_in e.1.shape p) (share_domain rs e.0 n) is).0)
