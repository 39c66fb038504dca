-- A flag that is set nowhere has no value.
use Rattle.std.proofs.Common.{◌≡◌, ℕ, true, false, Bool, cond, ◌||◌, nat_eq, if◌then◌else◌, List, [], ◌∷◌, find, Option, Some, None, is_some, option_map, refl, ap, ◌∙◌}
use Rattle.std.specs.List.{list_any}
use Rattle.std.specs.Option.{option_or, option_and_then}
use Rattle.vx_flag.specs.declared.flag.Flag.{Flag}
use Rattle.vx_flag.specs.declared.setting.Setting.{Setting}
use Rattle.vx_flag.specs.Settings.{setting_of}
use Rattle.vx_region.specs.Association.{association}
use Rattle.vx_region.specs.Ancestry.{ancestors}
use Rattle.vx_region.specs.Regions.{Entry, Regions, region_at, setting_at}
use Rattle.vx_region.specs.Subjects.{Actor}
use Rattle.vx_decide.specs.declared.question.Question.{Question}
use Rattle.vx_decide.specs.declared.question.Question.TheVariants.{OnFlag}
use Rattle.vx_decide.specs.Cases.{Case}
use Rattle.vx_decide.specs.Effective.{region_no, heard, value_at, first_of, effective}
use Rattle.vx_decide.specs.Query.{flag_of_question, decider, answer_at, decided, query}
use Rattle.vx_decide.specs.Unset.{IsUnset, sets}

-- where none answers, none is the first that does
first_silent : {X : Type 0} (g : ℕ → Option X) → ((n : ℕ) → g n ≡ None) → (ns : List ℕ) → first_of g ns ≡ None
first_silent g none [] = refl
first_silent g none (n ∷ ns) = ap (λ o. option_or o (first_of g ns)) (none n) ∙ first_silent g none ns

either : (a b : Bool) → (a || b) ≡ false → a ≡ false
either true b none = cc
either false b none = refl

other : (a b : Bool) → (a || b) ≡ false → b ≡ false
other true b none = cc
other false b none = none

nothing : (o : Option Setting) → is_some o ≡ false → o ≡ None
nothing None none = refl
nothing (Some s) none = cc

-- where no region sets the flag, none that is found does
found_silent : (f : Flag) (n : ℕ) (es : List Entry) → list_any (sets f) es ≡ false
    → option_and_then (λ r. setting_of r.settings f) (option_map (λ (e : Entry). e.1) (find (λ e. nat_eq n e.0) es)) ≡ None
found_silent f n [] none = refl
found_silent f n (e ∷ es) none =
    by (nat_eq n e.0) (found_silent f n es (other (sets f e) (list_any (sets f) es) none))
  where
    rest : Option Entry
    rest = find (λ d. nat_eq n d.0) es

    by : (b : Bool) → option_and_then (λ r. setting_of r.settings f) (option_map (λ (d : Entry). d.1) rest) ≡ None
        → option_and_then (λ r. setting_of r.settings f) (option_map (λ (d : Entry). d.1) (cond b (Some e) rest)) ≡ None
    by true later = nothing (setting_of e.1.settings f) (either (sets f e) (list_any (sets f) es) none)
    by false later = later

-- nothing is set for the flag at any number
setting_silent : (rs : Regions) (f : Flag) (n : ℕ) → IsUnset rs f → setting_at rs n f ≡ None
unfolding setting_at region_at
setting_silent rs f n unset = by (nat_eq n 0)
  where
    by : (b : Bool) → (if b then setting_of rs.global f else option_and_then (λ r. setting_of r.settings f) (region_at rs n)) ≡ None
    by true = unset.at_large
    by false = found_silent f n rs.entries unset.each

-- nor is there a value for anyone at any region
pub unset_has_none : (rs : Regions) (s : Actor) (f : Flag) (n : ℕ) → IsUnset rs f → effective rs s f n ≡ None
unfolding effective value_at
unset_has_none rs s f n unset =
    first_silent (value_at rs f (association rs s n)) (λ k. ap (heard k (association rs s n)) (setting_silent rs f k unset)) (ancestors rs n)

-- nor does anything decide by it
pub unset_decides : (q : Question) (a : Case) → IsUnset a.regions (flag_of_question q) → decided q a ≡ None
unfolding decided answer_at
unset_decides q a unset = by (decider q a)
  where
    by : (o : Option ℕ) → option_and_then (answer_at a (flag_of_question q)) o ≡ None
    by None = refl
    by (Some n) = ap (option_map (λ v. record { at = region_no n; value = v })) (unset_has_none a.regions a.actor (flag_of_question q) n unset)

-- nor does a query on it find anything
pub unset_says : (f : Flag) (a : Case) → IsUnset a.regions f → query f a ≡ None
unfolding query answer_at
unset_says f a unset =
    ap (λ o. option_or o (answer_at a f 0)) (unset_decides (OnFlag f) a unset)
    ∙ ap (option_map (λ v. record { at = region_no 0; value = v })) (unset_has_none a.regions a.actor f 0 unset)
