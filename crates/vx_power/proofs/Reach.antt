-- What rounds tell of levels, and that the level is that of the shortest walk.
use Rattle.std.proofs.Common.{◌≡◌, ℕ, zero, suc, ◌+◌, ◌-◌, ◌<◌, ◌≤◌, ◌⊎◌, inl, inr, Bool, true, false, ◌||◌, if◌then◌else◌, List, [], ◌∷◌, length, nat_lt, refl, sym, ap, ◌∙◌, subst, arith}
use Rattle.std.specs.List.{list_any}
use Rattle.std.proofs.lemmas.Bool.{false≢true, ltb-true, ltb-false}
use Rattle.vx_power.specs.Walks.{within, level_by, level_of, IsAmong, IsWalk, HasWalk, IsLevel}

known : (b : Bool) → (b ≡ true) ⊎ (b ≡ false)
known true = inl refl
known false = inr refl

either : (a b : Bool) → (a || b) ≡ true → (a ≡ true) ⊎ (b ≡ true)
either true b h = inl refl
either false b h = inr h

left : (a b : Bool) → a ≡ true → (a || b) ≡ true
left a b h = ap (λ a. a || b) h

right : (a b : Bool) → b ≡ true → (a || b) ≡ true
right true b h = refl
right false b h = h

-- an element that passes a test
pub any_from : {X : Type 0} (test : X → Bool) (xs : List X) (x : X) → IsAmong xs x → test x ≡ true → list_any test xs ≡ true
any_from test [] x among passes = absurd among
any_from test (y ∷ ys) x (inl same) passes = left (test y) (list_any test ys) (ap test same ∙ passes)
any_from test (y ∷ ys) x (inr among) passes = right (test y) (list_any test ys) (any_from test ys x among passes)

pub any_at : {X : Type 0} (test : X → Bool) (xs : List X) → list_any test xs ≡ true → (x : X) × IsAmong xs x × (test x ≡ true)
any_at test [] any = absurd (false≢true any)
any_at test (y ∷ ys) any = elim (either (test y) (list_any test ys) any) [
  | inl passes ↦ (y, inl refl, passes)
  | inr further ↦ let found = any_at test ys further in (found.0, inr found.1, found.2)
]

split : (r n : ℕ) → r ≤ suc n → (r ≤ n) ⊎ (r ≡ suc n)
split zero n least = inl (omega arith)
split (suc r) zero least = inr (omega (arith, least))
split (suc r) (suc n) least = elim (split r n (omega (arith, least))) [
  | inl less ↦ inl (omega (arith, less))
  | inr same ↦ inr (omega (arith, same))
]

module _ {X : Type 0} (fed : X → Bool) (links : X → List X) where
  -- one link more
  pub within_more : (n : ℕ) (p : X) → within fed links n p ≡ true → within fed links (suc n) p ≡ true
  unfolding within
  within_more n p h = left (within fed links n p) (list_any (within fed links n) (links p)) h

  within_grows : (m n k : ℕ) (p : X) → k ≡ n + m → within fed links m p ≡ true → within fed links k p ≡ true
  within_grows m zero k p is h = subst (λ j. within fed links j p ≡ true) (omega (arith, is)) h
  within_grows m (suc n) k p is h =
      subst (λ j. within fed links j p ≡ true) (omega (arith, is)) (within_more (n + m) p (within_grows m n (n + m) p refl h))

  pub within_most : (m n : ℕ) (p : X) → m ≤ n → within fed links m p ≡ true → within fed links n p ≡ true
  within_most m n p least h = within_grows m (n - m) n p (omega (arith, least)) h

  -- within means a walk
  pub walk_from : (d : ℕ) (p : X) → within fed links d p ≡ true → HasWalk fed links p d
  unfolding within
  walk_from zero p h = ([], omega arith, h)
  walk_from (suc d) p h = elim (either (within fed links d p) (list_any (within fed links d) (links p)) h) [
    | inl near ↦ let walk = walk_from d p near in (walk.0, omega (arith, walk.1), walk.2)
    | inr next ↦
        let found = any_at (within fed links d) (links p) next in
        let walk = walk_from d found.0 found.2 in (
          found.0 ∷ walk.0,
          omega (arith, walk.1),
          (found.1, walk.2),
        )
  ]

  pub within_walk : (qs : List X) (p : X) → IsWalk fed links p qs → within fed links (length qs) p ≡ true
  unfolding within
  within_walk [] p walk = walk
  within_walk (q ∷ qs) p walk =
      right (within fed links (length qs) p) (list_any (within fed links (length qs)) (links p))
      (any_from (within fed links (length qs)) (links p) q walk.0 (within_walk qs q walk.1))

  pub within_from : (d : ℕ) (p : X) → HasWalk fed links p d → within fed links d p ≡ true
  within_from d p walk = within_most (length walk.0) d p walk.1 (within_walk walk.0 p walk.2)

  -- what the level after n rounds says of each shorter walk
  pub record Tells (n : ℕ) (p : X) : Type 0 where
    pub most : level_by fed links n p ≤ 15
    pub reached : (r : ℕ) → r ≤ n → within fed links r p ≡ true → 15 ≤ level_by fed links n p + r
    pub away : (r : ℕ) → r ≤ n → within fed links r p ≡ false → level_by fed links n p + r < 15

  -- a place is not within and beyond
  never : (r : ℕ) (p : X) → within fed links r p ≡ true → within fed links r p ≡ false → ⊥
  never r p near away = false≢true (sym away ∙ near)

  none : (r : ℕ) → r ≤ 0 → r ≡ 0
  none r least = omega (arith, least)

  -- fed, or not
  at_fed : (p : X) → fed p ≡ true → Tells zero p
  unfolding level_by within
  at_fed p is =
      let v : level_by fed links zero p ≡ 15 = ap (λ b. if b then 15 else 0) is in
      record { most = omega (arith, v); reached = λ r least h. omega (arith, v); away = λ r least h. absurd (never zero p is (subst (λ k. within fed links k p ≡ false) (none r least) h)) }

  at_unfed : (p : X) → fed p ≡ false → Tells zero p
  unfolding level_by within
  at_unfed p is =
      let v : level_by fed links zero p ≡ 0 = ap (λ b. if b then 15 else 0) is in
      record { most = omega (arith, v); reached = λ r least h. absurd (never zero p (subst (λ k. within fed links k p ≡ true) (none r least) h) is); away = λ r least h. omega (arith, v, least) }

  -- a place that was reached keeps its level
  keeps : (n : ℕ) (p : X) → within fed links n p ≡ true → Tells n p → Tells (suc n) p
  unfolding level_by
  keeps n p is old =
      let v : level_by fed links (suc n) p ≡ level_by fed links n p =
      ap (λ b. if b then level_by fed links n p else if within fed links (suc n) p then 14 - n else 0) is in
      record {
        most = omega (arith, v, old.most);
        reached = λ r least h. elim (split r n least) [
          | inl less ↦ let most = old.reached r less h in omega (arith, v, most)
          | inr same ↦ let most = old.reached n (omega arith) is in omega (arith, v, most, same)
        ];
        away = λ r least h. elim (split r n least) [
          | inl less ↦ let most = old.away r less h in omega (arith, v, most)
          | inr same ↦ absurd (never (suc n) p (within_more n p is) (subst (λ k. within fed links k p ≡ false) same h))
        ];
      }

  -- one that is reached now gets what is left
  module _ (n : ℕ) (p : X) (few : suc n ≤ 14) (not_yet : within fed links n p ≡ false) where
    not_before : (r : ℕ) → r ≤ n → within fed links r p ≡ true → ⊥
    not_before r least h = never n p (within_most r n p least h) not_yet

    gets : within fed links (suc n) p ≡ true → Tells (suc n) p
    unfolding level_by
    gets is =
        let v : level_by fed links (suc n) p ≡ 14 - n =
        ap (λ b. if b then level_by fed links n p else if within fed links (suc n) p then 14 - n else 0) not_yet ∙ ap (λ b. if b then 14 - n else 0) is in
        record {
          most = omega (arith, v);
          reached = λ r least h. elim (split r n least) [
            | inl less ↦ absurd (not_before r less h)
            | inr same ↦ omega (arith, v, same, few)
          ];
          away = λ r least h. elim (split r n least) [
            | inl less ↦ omega (arith, v, less, few)
            | inr same ↦ absurd (never (suc n) p is (subst (λ k. within fed links k p ≡ false) same h))
          ];
        }

    lacks : within fed links (suc n) p ≡ false → Tells (suc n) p
    unfolding level_by
    lacks is =
        let v : level_by fed links (suc n) p ≡ 0 =
        ap (λ b. if b then level_by fed links n p else if within fed links (suc n) p then 14 - n else 0) not_yet ∙ ap (λ b. if b then 14 - n else 0) is in
        record {
          most = omega (arith, v);
          reached = λ r least h. elim (split r n least) [
            | inl less ↦ absurd (not_before r less h)
            | inr same ↦ absurd (never (suc n) p (subst (λ k. within fed links k p ≡ true) same h) is)
          ];
          away = λ r least h. omega (arith, v, least, few);
        }

  pub tells : (n : ℕ) (p : X) → n ≤ 14 → Tells n p
  tells zero p few = elim (known (fed p)) [ inl is ↦ at_fed p is | inr is ↦ at_unfed p is ]
  tells (suc n) p few = elim (known (within fed links n p)) [
    | inl is ↦ keeps n p is (tells n p (omega (arith, few)))
    | inr not_yet ↦ elim (known (within fed links (suc n) p)) [
      | inl is ↦ gets n p few not_yet is
      | inr is ↦ lacks n p few not_yet is
    ]
  ]

  -- the level is that of the shortest walk
  pub is_level : (p : X) → IsLevel fed links p (level_of fed links p)
  unfolding level_of
  is_level p =
      let told = tells 14 p (omega arith) in
      record {
        most = told.most;
        walks = λ d few. (
          λ most. elim (known (within fed links d p)) [
            | inl near ↦ walk_from d p near
            | inr away ↦ let less = told.away d (omega (arith, few)) away in absurd (omega (arith, less, most))
          ],
          λ walk. told.reached d (omega (arith, few)) (within_from d p walk),
        );
      }

  -- the level falls by at most one with each link
  pub falls_by_one : (p q : X) → IsAmong (links p) q → level_of fed links q ≤ level_of fed links p + 1
  unfolding level_of within
  falls_by_one p q linked =
      let v = level_by fed links 14 q in
      let of_p = tells 14 p (omega arith) in
      let of_q = tells 14 q (omega arith) in
      elim (known (nat_lt 1 v)) [
        | inr small ↦ let most = ltb-false 1 v small in omega (arith, most)
        | inl large ↦
            let least = ltb-true 1 v large in
            elim (known (within fed links (15 - v) q)) [
              | inl near ↦
                  let next = any_from (within fed links (15 - v)) (links p) q linked near in
                  let reached = of_p.reached (suc (15 - v)) (omega (arith, least))
                  (right (within fed links (15 - v) p) (list_any (within fed links (15 - v)) (links p)) next) in
                  omega (arith, reached, of_q.most)
              | inr away ↦
                  let less = of_q.away (15 - v) (omega (arith, least)) away in
                  absurd (omega (arith, less, of_q.most))
            ]
      ]
