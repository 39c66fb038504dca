-- Levels that agree with one another are those of the shortest walks.
use Rattle.std.proofs.Common.{◌≡◌, ℕ, zero, suc, ◌+◌, ◌-◌, ◌<◌, ◌≤◌, max, inl, inr, Bool, true, false, if◌then◌else◌, List, [], ◌∷◌, nat_lt, refl, sym, ap, ◌∙◌, subst, arith}
use Rattle.std.specs.List.{list_any}
use Rattle.std.proofs.Math.Nat.{le-max_left, le-max_right, max-eq_left, max-eq_right}
use Rattle.std.proofs.lemmas.Bool.{cases_Bool, ltb-true, ltb-false, or_cases, or_left, or_right}
use Rattle.vx_geom.specs.declared.pos.Pos.{Pos}
use Rattle.vx_block.specs.declared.cell.Cell.{Cell}
use Rattle.vx_block.specs.Components.{is_dust}
use Rattle.vx_levels.specs.Consistency.{greatest, pulled, ConsistentIsExact, ExactIsConsistent}
use Rattle.vx_power.specs.Dust.{links}
use Rattle.vx_power.specs.Signals.{is_fed}
use Rattle.vx_power.specs.Walks.{within, level_by, level_of, IsAmong}
use Rattle.vx_power.proofs.Linking.{links_at, links_lead_back}
use Rattle.vx_power.proofs.Reach.{any_at, any_from, tells, falls_by_one, within_more}

-- the greatest is no less than any of them
pub greatest_least : {X : Type 0} (level : X → ℕ) (qs : List X) (q : X) → IsAmong qs q → level q ≤ greatest level qs
greatest_least level [] q among = absurd among
greatest_least level (r ∷ qs) q (inl same) =
    subst (λ q. level q ≤ max (level r) (greatest level qs)) same (le-max_left (level r) (greatest level qs))
greatest_least level (r ∷ qs) q (inr among) =
    let rest = greatest_least level qs q among in
    let more = le-max_right (level r) (greatest level qs) in
    omega (arith, rest, more)

-- and is one of them, if it is some
pub greatest_at : {X : Type 0} (level : X → ℕ) (qs : List X) → 0 < greatest level qs → (q : X) × IsAmong qs q × (level q ≡ greatest level qs)
greatest_at level [] some = absurd (omega (arith, some))
greatest_at level (r ∷ qs) some = elim (cases_Bool (nat_lt (level r) (greatest level qs))) [
  | inl less ↦
      let most : max (level r) (greatest level qs) ≡ greatest level qs = max-eq_right (let l = ltb-true (level r) (greatest level qs) less in omega (arith, l)) in
      let found = greatest_at level qs (subst (λ n. 0 < n) most some) in
      (found.0, inr found.1, found.2 ∙ sym most)
  | inr more ↦
      let most : max (level r) (greatest level qs) ≡ level r = max-eq_left (ltb-false (level r) (greatest level qs) more) in
      (r, inl refl, sym most)
]

-- levels that are the same there have the same greatest
pub greatest_same : {X : Type 0} (f g : X → ℕ) (qs : List X) → ((q : X) → IsAmong qs q → f q ≡ g q) → greatest f qs ≡ greatest g qs
greatest_same f g [] same = refl
greatest_same f g (q ∷ qs) same =
    ap (λ n. max n (greatest f qs)) (same q (inl refl))
    ∙ ap (λ n. max (g q) n) (greatest_same f g qs (λ r among. same r (inr among)))

module _ {X : Type 0} (fed : X → Bool) (links : X → List X) (level : X → ℕ) where
  pub told_fed : (p : X) → fed p ≡ true → pulled fed links level p ≡ 15
  unfolding pulled
  told_fed p is = ap (λ b. if b then 15 else greatest level (links p) - 1) is

  pub told_unfed : (p : X) → fed p ≡ false → pulled fed links level p ≡ greatest level (links p) - 1
  unfolding pulled
  told_unfed p is = ap (λ b. if b then 15 else greatest level (links p) - 1) is

  -- among places that link to no others
  module _ (on : X → Bool) (closed : (p q : X) → on p ≡ true → IsAmong (links p) q → on q ≡ true)
      (right : (p : X) → on p ≡ true → (level p ≤ 15) × (level p ≡ pulled fed links level p)) where
    -- a walk of n links gives at least 15 less n
    given : (n : ℕ) (p : X) → on p ≡ true → within fed links n p ≡ true → 15 ≤ level p + n
    unfolding within
    given zero p there is = let v = (right p there).1 ∙ told_fed p is in omega (arith, v)
    given (suc n) p there is = elim (or_cases (within fed links n p) (list_any (within fed links n) (links p)) is) [
      | inl near ↦ let least = given n p there near in omega (arith, least)
      | inr next ↦ elim (cases_Bool (fed p)) [
        | inl is ↦ let v = (right p there).1 ∙ told_fed p is in omega (arith, v)
        | inr isnt ↦
            let found = any_at (within fed links n) (links p) next in
            let least = given n found.0 (closed p found.0 there found.1) found.2 in
            let most = greatest_least level (links p) found.0 found.1 in
            let v = (right p there).1 ∙ told_unfed p isnt in
            omega (arith, least, most, v)
      ]
    ]

    -- and 15 less n is given by a walk of n links alone
    taken : (n : ℕ) (p : X) → n ≤ 14 → on p ≡ true → 15 ≤ level p + n → within fed links n p ≡ true
    unfolding within
    taken zero p few there least = elim (cases_Bool (fed p)) [
      | inl is ↦ is
      | inr isnt ↦
          let v = (right p there).1 ∙ told_unfed p isnt in
          let q_most : greatest level (links p) ≤ 15 = elim (cases_Bool (nat_lt 0 (greatest level (links p)))) [
            | inl some ↦
                let found = greatest_at level (links p) (ltb-true 0 (greatest level (links p)) some) in
                let most = (right found.0 (closed p found.0 there found.1)).0 in
                let same = found.2 in
                omega (arith, most, same)
            | inr none ↦ let least = ltb-false 0 (greatest level (links p)) none in omega (arith, least)
          ] in
          absurd (omega (arith, v, q_most, least))
    ]
    taken (suc n) p few there least = elim (cases_Bool (fed p)) [
      | inl is ↦ or_left (within fed links n p) (list_any (within fed links n) (links p)) (fed_within n p is)
      | inr isnt ↦
          let v = (right p there).1 ∙ told_unfed p isnt in
          let some : 0 < greatest level (links p) = omega (arith, v, least, few) in
          let found = greatest_at level (links p) some in
          let same = found.2 in
          let next = taken n found.0 (omega (arith, few)) (closed p found.0 there found.1) (omega (arith, v, same, least, few)) in
          or_right (within fed links n p) (list_any (within fed links n) (links p)) (any_from (within fed links n) (links p) found.0 found.1 next)
    ]
      where
        fed_within : (n : ℕ) (p : X) → fed p ≡ true → within fed links n p ≡ true
        fed_within zero p is = is
        fed_within (suc n) p is = within_more fed links n p (fed_within n p is)

    -- so it is the level
    pub is_exact : (p : X) → on p ≡ true → level p ≡ level_of fed links p
    unfolding level_of
    is_exact p there =
        let told = tells fed links 14 p (omega arith) in
        let v = level_by fed links 14 p in
        let most = (right p there).0 in
        let v_most = told.most in
        let up : level p ≤ v = elim (cases_Bool (nat_lt 0 (level p))) [
          | inl some ↦
              let least = ltb-true 0 (level p) some in
              let walk = taken (15 - level p) p (omega (arith, least)) there (omega (arith, most)) in
              let reached = told.reached (15 - level p) (omega (arith, least)) walk in
              omega (arith, reached, most)
          | inr none ↦ let least = ltb-false 0 (level p) none in omega (arith, least)
        ] in
        let down : v ≤ level p = elim (cases_Bool (nat_lt 0 v)) [
          | inl some ↦
              let least = ltb-true 0 v some in
              elim (cases_Bool (within fed links (15 - v) p)) [
                | inl near ↦ let reached = given (15 - v) p there near in omega (arith, reached, v_most)
                | inr away ↦ let less = told.away (15 - v) (omega (arith, least)) away in absurd (omega (arith, less, v_most))
              ]
          | inr none ↦ let least = ltb-false 0 v none in omega (arith, least)
        ] in
        omega (arith, up, down)

module _ {X : Type 0} (fed : X → Bool) (links : X → List X) where
  -- the levels of a graph agree with one another
  pub level_agrees : (p : X) → level_of fed links p ≡ pulled fed links (level_of fed links) p
  unfolding level_of within
  level_agrees p =
      let told = tells fed links 14 p (omega arith) in
      let level : X → ℕ = level_of fed links in
      let v = level_by fed links 14 p in
      let v_most = told.most in
      elim (cases_Bool (fed p)) [
        | inl is ↦
            let least = told.reached 0 (omega arith) is in
            let known = told_fed fed links level p is in
            omega (arith, least, known, v_most)
        | inr isnt ↦
            let known = told_unfed fed links level p isnt in
            let g = greatest level (links p) in
            let down : g - 1 ≤ v = elim (cases_Bool (nat_lt 0 g)) [
              | inl some ↦
                  let found = greatest_at level (links p) (ltb-true 0 g some) in
                  let falls = falls_by_one fed links p found.0 found.1 in
                  let same = found.2 in
                  omega (arith, falls, same)
              | inr none ↦ let least = ltb-false 0 g none in omega (arith, least)
            ] in
            let less = told.away 0 (omega arith) isnt in
            let up : v ≤ g - 1 = elim (cases_Bool (nat_lt 0 v)) [
              | inl some ↦ let least = ltb-true 0 v some in from_next p isnt (14 - v) (omega (arith, least, less)) least
              | inr none ↦ let least = ltb-false 0 v none in omega (arith, least)
            ] in
            omega (arith, known, up, down)
      ]
    where
      from_next : (p : X) → fed p ≡ false → (m : ℕ) → level_by fed links 14 p + m ≡ 14 → 0 < level_by fed links 14 p
          → level_by fed links 14 p ≤ greatest (level_of fed links) (links p) - 1
      from_next p isnt m is some = elim (cases_Bool (within fed links (suc m) p)) [
        | inl near ↦ elim (or_cases (within fed links m p) (list_any (within fed links m) (links p)) near) [
          | inl nearer ↦ let reached = (tells fed links 14 p (omega arith)).reached m (omega (arith, is)) nearer in absurd (omega (arith, reached, is))
          | inr next ↦
              let found = any_at (within fed links m) (links p) next in
              let reached = (tells fed links 14 found.0 (omega arith)).reached m (omega (arith, is)) found.2 in
              let most = greatest_least (level_of fed links) (links p) found.0 found.1 in
              omega (arith, reached, most, is)
        ]
        | inr away ↦ let less = (tells fed links 14 p (omega arith)).away (suc m) (omega (arith, is, some)) away in absurd (omega (arith, less, is))
      ]

  -- and so do those that are the same
  pub same_agrees : (level : X → ℕ) (p : X) → level p ≡ level_of fed links p
      → ((q : X) → IsAmong (links p) q → level q ≡ level_of fed links q) → level p ≡ pulled fed links level p
  unfolding pulled
  same_agrees level p same next =
      same ∙ level_agrees p
      ∙ ap (λ n. if fed p then 15 else n - 1) (sym (greatest_same level (level_of fed links) (links p) next))

-- dust links to dust
pub links_to_dust : (w : Pos → Cell) (p q : Pos) → IsAmong (links w p) q → is_dust (w q) ≡ true
links_to_dust w p q among = (links_at w q p (links_lead_back w p q among)).0

pub consistent_is_exact : ConsistentIsExact
consistent_is_exact w level right p dust =
    is_exact (is_fed w) (links w) level (λ p. is_dust (w p)) (λ p q there among. links_to_dust w p q among) right p dust

pub exact_is_consistent : ExactIsConsistent
unfolding level_of
exact_is_consistent w level exact p dust = (
  (let same = exact p dust in let most = (tells (is_fed w) (links w) 14 p (omega arith)).most in omega (arith, same, most)),
  same_agrees (is_fed w) (links w) level p (exact p dust) (λ q among. exact q (links_to_dust w p q among)),
)
