-- The least number of a member, found from the front of regions in order of their numbers.
use Rattle.std.proofs.Common.{◌≡◌, ℕ, zero, suc, ◌+◌, ◌<◌, Bool, true, false, nat_lt, if◌then◌else◌, List, [], ◌∷◌, drop, slice_get, Option, Some, None, Contains, ◌⊎◌, inl, inr, refl, ap, sym, ◌∙◌, subst, arith}
use Rattle.std.proofs.lemmas.Bool.{ltb-true, ltb-false}
use Rattle.std.proofs.lemmas.List.Elements.{Contains-append_right, Contains-append_left}
use Rattle.vx_base.proofs.Lists.{drop_at}
use Rattle.vx_region.specs.Regions.{Entry, RegionData}
use Rattle.vx_decide.specs.Candidates.{Ascend}
use Rattle.vx_decide.specs.RegionGroups.{Members, lesser, least}

-- a region that is no member can be passed over
pub least_next : (members : Members) (es : List Entry) (i : ℕ) (e : Entry) → slice_get es i ≡ Some e → members e ≡ false
    → least members (drop (i + 1) es) ≡ least members (drop i es)
least_next members es i e item fails =
    let rest = drop (i + 1) es in
    sym (ap (least members) (drop_at es i e item) ∙ ap (λ b. if b then Some (lesser e.0 (least members rest)) else least members rest) fails)

lesser_same : (a : ℕ) (o : Option ℕ) → ((m : ℕ) → o ≡ Some m → a < m) → lesser a o ≡ a
lesser_same a None above = refl
lesser_same a (Some m) above = let least = above m refl in grind arith

picked : (a : ℕ) (o : Option ℕ) (n : ℕ) → lesser a o ≡ n → (a ≡ n) ⊎ (o ≡ Some n)
picked a None n same = inl same
picked a (Some m) n same = by (nat_lt m a) refl
  where
    by : (b : Bool) → nat_lt m a ≡ b → (a ≡ n) ⊎ (Some m ≡ Some n)
    by true e = let below : m < a = ltb-true m a e in inr (ap Some (grind arith))
    by false e = let above = ltb-false m a e in inl (grind arith)

-- the region of the least number is a member
pub least_is : (members : Members) (es : List Entry) (n : ℕ) → least members es ≡ Some n → (r : RegionData) × Contains es (n, r) × (members (n, r) ≡ true)
least_is members [] n found = cc
least_is members (e ∷ es) n found = by (members e) refl found (least_is members es n)
  where
    here : members e ≡ true → e.0 ≡ n → (r : RegionData) × Contains (e ∷ es) (n, r) × (members (n, r) ≡ true)
    here passes same = subst (λ k. (r : RegionData) × Contains (e ∷ es) (k, r) × (members (k, r) ≡ true)) same (e.1, Contains-append_left (e ∷ []) es e (0, omega arith, refl), passes)

    further : (least members es ≡ Some n → (r : RegionData) × Contains es (n, r) × (members (n, r) ≡ true)) → least members es ≡ Some n → (r : RegionData) × Contains (e ∷ es) (n, r) × (members (n, r) ≡ true)
    further rest at = let found = rest at in (found.0, Contains-append_right (e ∷ []) es (n, found.0) found.1, found.2)

    by : (b : Bool) → members e ≡ b → (if b then Some (lesser e.0 (least members es)) else least members es) ≡ Some n
        → (least members es ≡ Some n → (r : RegionData) × Contains es (n, r) × (members (n, r) ≡ true)) → (r : RegionData) × Contains (e ∷ es) (n, r) × (members (n, r) ≡ true)
    by true passes at rest = let same : lesser e.0 (least members es) ≡ n = cc in elim (picked e.0 (least members es) n same) [ inl first ↦ here passes first | inr later ↦ further rest later ]
    by false fails at rest = further rest at

-- what stands behind a region of those that ascend has a higher number
behind : (es : List Entry) (i : ℕ) (e : Entry) (rest : List Entry) (d : Entry) → Ascend es → drop i es ≡ e ∷ rest → Contains rest d → e.0 < d.0
behind [] zero e rest d up left there = cc
behind [] (suc i) e rest d up left there = cc
behind (x ∷ es) zero e rest d up left there =
    let first : x ≡ e = cc in
    let others : rest ≡ es = cc in
    let at = subst (λ l. Contains l d) others there in
    let low = up 0 (suc at.0) d (omega arith) (omega (arith, at.1)) in
    subst (λ y. y.0 < d.0) first (subst (λ y. x.0 < y.0) at.2 low)
behind (x ∷ es) (suc i) e rest d up left there =
    behind es i e rest d (λ a b z before below. up (suc a) (suc b) z (omega (arith, before)) (omega (arith, below))) left there

-- the first member from the front has the least number
pub least_here : (members : Members) (es : List Entry) (i : ℕ) (e : Entry) → Ascend es → slice_get es i ≡ Some e → members e ≡ true
    → least members (drop i es) ≡ Some e.0
least_here members es i e up item passes =
    let rest = drop (i + 1) es in
    let left = drop_at es i e item in
    let above = λ (m : ℕ) (found : least members rest ≡ Some m). let it = least_is members rest m found in behind es i e rest (m, it.0) up left it.1 in
    ap (least members) left
    ∙ ap (λ b. if b then Some (lesser e.0 (least members rest)) else least members rest) passes
    ∙ ap Some (lesser_same e.0 (least members rest) above)
