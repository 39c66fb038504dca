-- The steps of a walk up the ancestry for the first region that answers.
use Rattle.std.proofs.Common.{◌≡◌, ℕ, suc, ◌+◌, Bool, true, false, nat_eq, if◌then◌else◌, List, Option, Some, None, is_some, refl, ap, ◌∙◌, arith}
use Rattle.std.specs.Option.{option_or, option_and_then}
use Rattle.std.proofs.lemmas.Bool.{eqb-true}
use Rattle.vx_flag.specs.declared.flag.Flag.{Flag}
use Rattle.vx_flag.specs.Settings.{setting_of}
use Rattle.vx_region.specs.Association.{association}
use Rattle.vx_region.specs.Forest.{IsForest}
use Rattle.vx_region.specs.Regions.{RegionData, Regions, region_at, parent_of, setting_at}
use Rattle.vx_region.specs.Subjects.{Actor}
use Rattle.vx_region.specs.Ancestry.{chain, from_parent, ancestors}
use Rattle.vx_region.proofs.Walks.{chain_on, chain_next, chain_last}
use Rattle.vx_decide.specs.declared.value.Value.{Value}
use Rattle.vx_decide.specs.Effective.{heard, value_at, first_of, effective}
use Rattle.vx_decide.proofs.ByNumber.{above_zero}

module _ {X : Type 0} (f : ℕ → Option X) where
  or_here : (o rest : Option X) → is_some o ≡ true → option_or o rest ≡ o
  or_here None rest there = cc
  or_here (Some x) rest there = refl

  or_next : (o rest : Option X) → is_some o ≡ false → option_or o rest ≡ rest
  or_next None rest there = refl
  or_next (Some x) rest there = cc

  -- the region at hand answers
  pub first_here : (rs : Regions) (j k r : ℕ) → j ≡ k + 1 → is_some (f r) ≡ true → first_of f (chain j rs r) ≡ f r
  first_here rs j k r more there = chain_on (first_of f) rs j k r more ∙ or_here (f r) (first_of f (from_parent (chain k rs) (parent_of rs r))) there

  -- it does not, and the walk goes on at its parent
  pub first_next : (rs : Regions) (j k r q : ℕ) → j ≡ k + 1 → is_some (f r) ≡ false → parent_of rs r ≡ Some q → first_of f (chain j rs r) ≡ first_of f (chain k rs q)
  first_next rs j k r q more none has = chain_next (first_of f) rs j k r q more has ∙ or_next (f r) (first_of f (chain k rs q)) none

  -- or ends
  pub first_last : (rs : Regions) (j k r : ℕ) → j ≡ k + 1 → is_some (f r) ≡ false → parent_of rs r ≡ None → first_of f (chain j rs r) ≡ None
  first_last rs j k r more none last = chain_last (first_of f) rs j k r more last ∙ or_next (f r) None none

  -- no step is left
  pub first_over : (rs : Regions) (j r : ℕ) → j ≡ 0 → first_of f (chain j rs r) ≡ None
  first_over rs j r none = ap (λ n. first_of f (chain n rs r)) none

-- a walk of as many steps as numbers were given, and one, goes the whole way
pub whole_way : {X : Type 0} (f : List ℕ → X) (rs : Regions) (k r : ℕ) → k ≡ rs.last + 1 → f (chain k rs r) ≡ f (ancestors rs r)
unfolding ancestors
whole_way f rs k r same = let turns : k ≡ suc rs.last = omega arith in ap (λ j. f (chain j rs r)) turns

-- the walk that begins with a region that is at hand
module _ (rs : Regions) (s : Actor) (f : Flag) (n : ℕ) (r : RegionData) (forest : IsForest rs) (there : region_at rs n ≡ Some r) where
  -- what the region sets itself
  set_here : setting_at rs n f ≡ setting_of r.settings f
  unfolding setting_at
  set_here = by (nat_eq n 0) refl
    where
      by : (b : Bool) → nat_eq n 0 ≡ b
          → (if b then setting_of rs.global f else option_and_then (λ d. setting_of d.settings f) (region_at rs n)) ≡ setting_of r.settings f
      by true is = let zero : n ≡ 0 = eqb-true n 0 is in absurd (omega (arith, above_zero rs n r forest.numbered there, zero))
      by false is = ap (option_and_then (λ d. setting_of d.settings f)) there

  abbrev own : Option Value
  own = heard n (association rs s n) (setting_of r.settings f)

  own_here : value_at rs f (association rs s n) n ≡ own
  unfolding value_at
  own_here = ap (heard n (association rs s n)) set_here

  parent_here : parent_of rs n ≡ r.parent
  unfolding parent_of
  parent_here = ap (option_and_then (λ d. d.parent)) there

  -- it answers itself
  pub says_itself : is_some (heard n (association rs s n) (setting_of r.settings f)) ≡ true
      → effective rs s f n ≡ heard n (association rs s n) (setting_of r.settings f)
  unfolding effective ancestors
  says_itself some =
      first_here (value_at rs f (association rs s n)) rs (suc rs.last) rs.last n (omega arith) (ap is_some own_here ∙ some) ∙ own_here

  -- or what is above it
  pub says_above : (q : ℕ) → is_some (heard n (association rs s n) (setting_of r.settings f)) ≡ false → r.parent ≡ Some q
      → effective rs s f n ≡ first_of (value_at rs f (association rs s n)) (chain rs.last rs q)
  unfolding effective ancestors
  says_above q none has =
      first_next (value_at rs f (association rs s n)) rs (suc rs.last) rs.last n q (omega arith) (ap is_some own_here ∙ none) (parent_here ∙ has)

  -- or nothing does
  pub says_nothing : is_some (heard n (association rs s n) (setting_of r.settings f)) ≡ false → r.parent ≡ None → effective rs s f n ≡ None
  unfolding effective ancestors
  says_nothing none has =
      first_last (value_at rs f (association rs s n)) rs (suc rs.last) rs.last n (omega arith) (ap is_some own_here ∙ none) (parent_here ∙ has)
