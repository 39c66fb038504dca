-- The turns of a walk up the ancestry of a region: with the invariant that a test over what is left, `chain j rs at`, is the
-- test over the whole ancestry, each way out of the loop and each further turn is one of these.
use Rattle.std.proofs.Common.{◌≡◌, ℕ, suc, ◌+◌, ◌-◌, Bool, true, false, ◌||◌, List, [], ◌∷◌, None, Some, ap, ◌∙◌, add-one, arith}
use Rattle.std.specs.List.{list_any}
use Rattle.vx_region.specs.Regions.{Regions, parent_of}
use Rattle.vx_region.specs.Ancestry.{chain, from_parent, ancestors}

module _ {X : Type 0} (f : List ℕ → X) (rs : Regions) (j k r : ℕ) where
  -- the region at hand comes first
  pub chain_on : j ≡ k + 1 → f (chain j rs r) ≡ f (r ∷ from_parent (chain k rs) (parent_of rs r))
  chain_on more = ap (λ n. f (chain n rs r)) (more ∙ add-one k)

  -- and then the walk goes on at its parent
  pub chain_next : (q : ℕ) → j ≡ k + 1 → parent_of rs r ≡ Some q → f (chain j rs r) ≡ f (r ∷ chain k rs q)
  chain_next q more has = chain_on more ∙ ap (λ o. f (r ∷ from_parent (chain k rs) o)) has

  -- or ends
  pub chain_last : j ≡ k + 1 → parent_of rs r ≡ None → f (chain j rs r) ≡ f (r ∷ [])
  chain_last more none = chain_on more ∙ ap (λ o. f (r ∷ from_parent (chain k rs) o)) none

module _ (p : ℕ → Bool) (rs : Regions) (j k r : ℕ) where
  pub any_here : j ≡ k + 1 → p r ≡ true → list_any p (chain j rs r) ≡ true
  any_here more passes = chain_on (list_any p) rs j k r more ∙ ap (λ b. b || list_any p (from_parent (chain k rs) (parent_of rs r))) passes

  pub any_next : (q : ℕ) → j ≡ k + 1 → p r ≡ false → parent_of rs r ≡ Some q → list_any p (chain j rs r) ≡ list_any p (chain k rs q)
  any_next q more fails has = chain_next (list_any p) rs j k r q more has ∙ ap (λ b. b || list_any p (chain k rs q)) fails

  pub any_last : j ≡ k + 1 → p r ≡ false → parent_of rs r ≡ None → list_any p (chain j rs r) ≡ false
  any_last more fails none = chain_last (list_any p) rs j k r more none ∙ ap (λ b. b || false) fails

-- no turn is left
pub any_over : (p : ℕ → Bool) (rs : Regions) (j r : ℕ) → j ≡ 0 → list_any p (chain j rs r) ≡ false
any_over p rs j r none = ap (λ n. list_any p (chain n rs r)) none

-- as many turns as numbers were given, and one
pub begin : {X : Type 0} (f : List ℕ → X) (rs : Regions) (n r : ℕ) → n ≡ rs.last → f (chain (n + 1 - 0) rs r) ≡ f (ancestors rs r)
unfolding ancestors
begin f rs n r same = let turns : n + 1 - 0 ≡ suc rs.last = omega arith in ap (λ k. f (chain k rs r)) turns
