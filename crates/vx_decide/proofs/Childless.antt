-- A region without a child is an ancestor of none.
use Rattle.std.proofs.Common.{◌≡◌, ◌≢◌, ℕ, zero, suc, Bool, true, false, ◌&&◌, ◌||◌, nat_eq, List, [], ◌∷◌, Option, Some, None, refl, ap, sym, ◌∙◌}
use Rattle.std.specs.List.{list_any}
use Rattle.std.proofs.lemmas.Bool.{eqb-true}
use Rattle.vx_region.specs.Ancestry.{chain, from_parent, ancestors, has_child, is_above, is_number}
use Rattle.vx_region.specs.Regions.{Entry, Regions, parent_of}
use Rattle.vx_region.proofs.Removals.{not_parent}
use Rattle.vx_decide.specs.RegionGroups.{Members, is_above_one}

-- two numbers that are not the same
apart : (n q : ℕ) → q ≢ n → nat_eq n q ≡ false
apart n q other = by (nat_eq n q) refl
  where
    by : (b : Bool) → nat_eq n q ≡ b → b ≡ false
    by true is = absurd (other (sym (eqb-true n q is)))
    by false is = refl

-- neither of two
neither : (a b : Bool) → (a || b) ≡ false → (a ≡ false) × (b ≡ false)
neither true b none = cc
neither false b none = (refl, none)

module _ (members : Members) (rs : Regions) (n : ℕ) (childless : has_child rs n ≡ false) where
  -- it does not come along a chain that begins elsewhere
  not_along : (k q : ℕ) → nat_eq n q ≡ false → list_any (nat_eq n) (chain k rs q) ≡ false
  not_along zero q other = refl
  not_along (suc k) q other =
      ap (λ b. b || list_any (nat_eq n) (from_parent (chain k rs) (parent_of rs q))) other ∙ by (parent_of rs q) refl (not_along k)
    where
      by : (o : Option ℕ) → parent_of rs q ≡ o → ((p : ℕ) → nat_eq n p ≡ false → list_any (nat_eq n) (chain k rs p) ≡ false)
          → list_any (nat_eq n) (from_parent (chain k rs) o) ≡ false
      by None has rest = refl
      by (Some p) has rest = rest p (apart n p (not_parent rs n q p childless has))

  -- and so it is above no region of which it is not the parent
  not_above : (o : Option ℕ) → is_number n o ≡ false → list_any (nat_eq n) (from_parent (ancestors rs) o) ≡ false
  unfolding ancestors
  not_above None other = refl
  not_above (Some q) other = not_along (suc rs.last) q other

  above_none : (es : List Entry) → list_any (λ e. is_number n e.1.parent) es ≡ false → list_any (λ d. is_above rs n d.1 && members d) es ≡ false
  unfolding is_above
  above_none [] none = refl
  above_none (e ∷ es) none =
      let parts = neither (is_number n e.1.parent) (list_any (λ d. is_number n d.1.parent) es) none in
      ap (λ b. (b && members e) || list_any (λ d. is_above rs n d.1 && members d) es) (not_above e.1.parent parts.0)
      ∙ above_none es parts.1

  pub childless_above_none : is_above_one members rs n ≡ false
  unfolding is_above_one has_child
  childless_above_none = above_none rs.entries childless
