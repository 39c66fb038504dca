-- Levels made right again in place: what another level at one position leaves of what agrees.
use Rattle.std.proofs.Common.{◌≡◌, ◌≢◌, OnOk, Result, Ok, Err, ℕ, ◌+◌, ◌-◌, ◌<◌, ◌≤◌, ◌==◌, max, inl, inr, Bool, true, false, ◌||◌, if◌then◌else◌, List, [], ◌∷◌, ◌++◌, nat_lt, nat_le, refl, sym, ap, ◌∙◌, subst, arith}
use Rattle.std.proofs.Math.Nat.{le-max_left, le-max_right, max-le, zero-max}
use Rattle.std.proofs.lemmas.Bool.{cases_Bool, false≢true, ltb-true, ltb-false, le-leb, eqb-true, or_parts, or_left, and_from}
use Rattle.std.proofs.lemmas.Int.{ints}
use Rattle.vx_geom.specs.declared.pos.Pos.{Pos}
use Rattle.vx_block.specs.declared.cell.Cell.{Cell}
use Rattle.vx_block.specs.declared.side.Side.{Side}
use Rattle.vx_block.specs.declared.side.Side.TheVariants.{East, West, South, North}
use Rattle.vx_block.specs.Components.{is_dust}
use Rattle.vx_levels.specs.Consistency.{greatest, IsConsistent, IsExactOn}
use Rattle.vx_power.specs.Dust.{beside, over, under, links, links_on}
use Rattle.vx_power.specs.Levels.{has, same_place}
use Rattle.vx_levels.specs.Pending.{PendingData, is_pending, AreKept, is_between, linked_below, IsPut}
use Rattle.vx_power.specs.Signals.{is_fed}
use Rattle.vx_power.specs.Walks.{IsAmong}
use Rattle.vx_levels.proofs.Adding.{last_or}
use Rattle.vx_levels.proofs.Agreeing.{greatest_least, greatest_at, greatest_same, told_fed, told_unfed, consistent_is_exact}
use Rattle.vx_power.proofs.Having.{place_is, own_place, has_from, has_joined, has_filter}
use Rattle.vx_power.proofs.Linking.{Linked, links_at, links_lead_back}

pub max_joined : (a b c : ℕ) → max a (max b c) ≡ max (max a b) c
max_joined a b c =
    let ab = le-max_left a b in
    let ba = le-max_right a b in
    let l = le-max_left (max a b) c in
    let r = le-max_right (max a b) c in
    let bc = le-max_left b c in
    let cb = le-max_right b c in
    let l2 = le-max_left a (max b c) in
    let r2 = le-max_right a (max b c) in
    let up : max a (max b c) ≤ max (max a b) c = max-le (omega (arith, ab, l)) (max-le (omega (arith, ba, l)) r) in
    let down : max (max a b) c ≤ max a (max b c) = max-le (max-le l2 (omega (arith, bc, r2))) (omega (arith, cb, r2)) in
    omega (arith, up, down)

-- the greatest of two lists
pub greatest_joined : {X : Type 0} (level : X → ℕ) (xs ys : List X) → greatest level (xs ++ ys) ≡ max (greatest level xs) (greatest level ys)
greatest_joined level [] ys = sym (zero-max (greatest level ys))
greatest_joined level (x ∷ xs) ys =
    ap (λ n. max (level x) n) (greatest_joined level xs ys)
    ∙ max_joined (level x) (greatest level xs) (greatest level ys)

-- no more than what none of them is over
pub greatest_most : {X : Type 0} (level : X → ℕ) (qs : List X) (n : ℕ) → ((q : X) → IsAmong qs q → level q ≤ n) → greatest level qs ≤ n
greatest_most level [] n most = omega arith
greatest_most level (q ∷ qs) n most = max-le (most q (inl refl)) (greatest_most level qs n (λ r among. most r (inr among)))

-- the links of dust, side by side
pub side_links : (w : Pos → Cell) (p : Pos) → is_dust (w p) ≡ true
    → links w p ≡ links_on w p East ++ (links_on w p West ++ (links_on w p South ++ links_on w p North))
unfolding links
side_links w p dust =
    ap (λ b. if b then links_on w p East ++ (links_on w p West ++ (links_on w p South ++ links_on w p North)) else []) dust

apart : (p : Pos) (side : Side) (q : Pos) → q.x ≡ (beside p side).x → q.z ≡ (beside p side).z → q ≡ p → ⊥
apart p East q in_x in_z same = let x = ap (λ r. r.x) same in omega (arith, ints, in_x, x)
apart p West q in_x in_z same = let x = ap (λ r. r.x) same in omega (arith, ints, in_x, x)
apart p South q in_x in_z same = let z = ap (λ r. r.z) same in omega (arith, ints, in_z, z)
apart p North q in_x in_z same = let z = ap (λ r. r.z) same in omega (arith, ints, in_z, z)

-- no dust links to itself
pub own_link : (w : Pos → Cell) (p : Pos) → IsAmong (links w p) p → ⊥
unfolding Linked
own_link w p linked =
    let at = links_at w p p linked in
    elim at.1.1 [
      | inl level ↦ apart p at.1.0 (beside p at.1.0) refl refl level.1
      | inr sloped ↦ elim sloped [
        | inl up ↦ apart p at.1.0 (over (beside p at.1.0)) refl refl up.1
        | inr down ↦ apart p at.1.0 (under (beside p at.1.0)) refl refl down.1
      ]
    ]

-- a link that is not among those has a level that is lower, or high enough
not_below : (w : Pos → Cell) (level : Pos → ℕ) (least bound : ℕ) (p q : Pos) → least ≤ level q + 1
    → has (linked_below w level least bound p) q ≡ false → IsAmong (links w p) q → bound ≤ level q + 1
not_below w level least bound p q most none among = elim (cases_Bool (nat_lt (level q + 1) bound)) [
  | inl is ↦
      absurd (false≢true (sym none ∙ has_filter (is_between level least bound) (links w p) q
      ∙ and_from (is_between level least bound q) (has (links w p) q)
      (and_from (nat_le least (level q + 1)) (nat_lt (level q + 1) bound) (le-leb least (level q + 1) most) is)
      (has_from (links w p) q among)))
  | inr isnt ↦ ltb-false (level q + 1) bound isnt
]

module _ (w : Pos → Cell) (level new : Pos → ℕ) (p : Pos) (to : ℕ) (put : IsPut level new p to) where
  put_here : new p ≡ to
  put_here = put p ∙ ap (λ b. if b then to else level p) (own_place p)

  put_at : (q : Pos) → same_place q p ≡ true → new q ≡ to
  put_at q same = put q ∙ ap (λ b. if b then to else level q) same

  put_off : (q : Pos) → same_place q p ≡ false → new q ≡ level q
  put_off q off = put q ∙ ap (λ b. if b then to else level q) off

  -- where nothing is more than it was
  module _ (none : to ≡ 0) where
    less : (q : Pos) → new q ≤ level q
    less q = elim (cases_Bool (same_place q p)) [
      | inl same ↦ let v = put_at q same in omega (arith, v, none)
      | inr off ↦ let v = put_off q off in omega (arith, v)
    ]

    -- what p did not support has what it is told
    pub fallen : (q : Pos) → same_place q p ≡ false
        → has (linked_below w level (level p) (level p + 1) p) q ≡ false
        → IsConsistent w level q → IsConsistent w new q
    fallen q off kept right = elim (cases_Bool (is_fed w q)) [
      | inl is ↦ put_off q off ∙ right ∙ told_fed (is_fed w) (links w) level q is ∙ sym (told_fed (is_fed w) (links w) new q is)
      | inr isnt ↦
          let g = greatest level (links w q) in
          let was = right ∙ told_unfed (is_fed w) (links w) level q isnt in
          let here = put_off q off in
          let down : greatest new (links w q) ≤ g = greatest_most new (links w q) g (λ r among.
          let a = less r in let b = greatest_least level (links w q) r among in omega (arith, a, b)) in
          let up : g ≤ greatest new (links w q) = elim (cases_Bool (nat_lt 0 g)) [
            | inl some ↦
                let positive = ltb-true 0 g some in
                let found = greatest_at level (links w q) positive in
                let top = found.2 in
                elim (cases_Bool (same_place found.0 p)) [
                  | inl same ↦
                      let back : IsAmong (links w p) q = links_lead_back w q p (subst (IsAmong (links w q)) (place_is found.0 p same) found.1) in
                      let mine = greatest_least level (links w q) p (subst (IsAmong (links w q)) (place_is found.0 p same) found.1) in
                      let high = not_below w level (level p) (level p + 1) p q (omega (arith, mine, was)) kept back in
                      let at : level found.0 ≡ level p = ap level (place_is found.0 p same) in
                      absurd (omega (arith, high, at, top, was, positive))
                  | inr other ↦
                      let v = put_off found.0 other in
                      let least = greatest_least new (links w q) found.0 found.1 in
                      omega (arith, v, least, top)
                ]
            | inr nothing ↦ let least = ltb-false 0 g nothing in omega (arith, least)
          ] in
          let told = told_unfed (is_fed w) (links w) new q isnt in
          omega (arith, was, here, down, up, told)
    ]

  -- where nothing is less than it was
  module _ (more : level p ≤ to) where
    greater : (q : Pos) → level q ≤ new q
    greater q = elim (cases_Bool (same_place q p)) [
      | inl same ↦ let v = put_at q same in let at : level q ≡ level p = ap level (place_is q p same) in omega (arith, v, more, at)
      | inr off ↦ let v = put_off q off in omega (arith, v)
    ]

    pub risen : (q : Pos) → same_place q p ≡ false → has (linked_below w level 0 to p) q ≡ false
        → IsConsistent w level q → IsConsistent w new q
    risen q off kept right = elim (cases_Bool (is_fed w q)) [
      | inl is ↦ put_off q off ∙ right ∙ told_fed (is_fed w) (links w) level q is ∙ sym (told_fed (is_fed w) (links w) new q is)
      | inr isnt ↦
          let g = greatest level (links w q) in
          let was = right ∙ told_unfed (is_fed w) (links w) level q isnt in
          let here = put_off q off in
          let up : g ≤ greatest new (links w q) = greatest_most level (links w q) (greatest new (links w q)) (λ r among.
          let a = greater r in let b = greatest_least new (links w q) r among in omega (arith, a, b)) in
          let down : greatest new (links w q) ≤ level q + 1 = greatest_most new (links w q) (level q + 1) (λ r among.
          elim (cases_Bool (same_place r p)) [
            | inl same ↦
                let back : IsAmong (links w p) q = links_lead_back w q p (subst (IsAmong (links w q)) (place_is r p same) among) in
                let high = not_below w level 0 to p q (omega arith) kept back in
                let v = put_at r same in
                omega (arith, high, v)
            | inr other ↦
                let v = put_off r other in
                let most = greatest_least level (links w q) r among in
                omega (arith, v, most, was)
          ]) in
          let told = told_unfed (is_fed w) (links w) new q isnt in
          omega (arith, was, here, down, up, told)
    ]

  -- p has what it is told, if that was put there
  pub own_right : is_fed w p ≡ false → to ≡ greatest level (links w p) - 1 → IsConsistent w new p
  own_right isnt is =
      put_here ∙ is
      ∙ ap (λ n. n - 1) (sym (greatest_same new level (links w p) (λ q among. put_off q (other q among))))
      ∙ sym (told_unfed (is_fed w) (links w) new p isnt)
    where
      other : (q : Pos) → IsAmong (links w p) q → same_place q p ≡ false
      other q among = elim (cases_Bool (same_place q p)) [
        | inl same ↦ absurd (own_link w p (subst (IsAmong (links w p)) (place_is q p same) among))
        | inr off ↦ off
      ]

  pub own_fed : is_fed w p ≡ true → to ≡ 15 → IsConsistent w new p
  own_fed is all = put_here ∙ all ∙ sym (told_fed (is_fed w) (links w) new p is)

-- none of two lists
pub none_in : (xs ys : List Pos) (q : Pos) → has (xs ++ ys) q ≡ false → (has xs q ≡ false) × (has ys q ≡ false)
none_in xs ys q none = or_parts (has xs q) (has ys q) (sym (has_joined xs ys q) ∙ none)

both_none : (xs ys : List Pos) (q : Pos) → has xs q ≡ false → has ys q ≡ false → has (xs ++ ys) q ≡ false
both_none xs ys q no_x no_y = has_joined xs ys q ∙ ap (λ b. b || has ys q) no_x ∙ no_y

just : (p q : Pos) → same_place q p ≡ false → has (p ∷ []) q ≡ false
just p q off = ap (λ b. b || false) off

pub parts_of : (pending : PendingData) (q : Pos) → is_pending pending q ≡ false
    → (has pending.unsure q ≡ false) × (has pending.falling q ≡ false) × (has pending.rising q ≡ false)
parts_of pending q none =
    let first = or_parts (has pending.unsure q) (has pending.falling q || has pending.rising q) none in
    let rest = or_parts (has pending.falling q) (has pending.rising q) first.1 in
    (first.0, rest.0, rest.1)

of_parts : (pending : PendingData) (q : Pos) → has pending.unsure q ≡ false → has pending.falling q ≡ false → has pending.rising q ≡ false
    → is_pending pending q ≡ false
of_parts pending q a b c =
    ap (λ x. x || (has pending.falling q || has pending.rising q)) a
    ∙ ap (λ x. x || has pending.rising q) b ∙ c

-- what was pending is so still, but for p, and nothing else is
pub record IsTaken (before pending : PendingData) (p : Pos) : Type 0 where
  pub unsure : (q : Pos) → same_place q p ≡ false → has pending.unsure q ≡ false → has before.unsure q ≡ false
  pub all : (q : Pos) → same_place q p ≡ false → is_pending pending q ≡ false → is_pending before q ≡ false
  pub falling : (q : Pos) → has pending.falling q ≡ true → has before.falling q ≡ true
  pub rising : (q : Pos) → has pending.rising q ≡ true → has before.rising q ≡ true

-- what was pending is so still, and p is now, and nothing else falls or rises
pub record IsMoved (pending final : PendingData) (p : Pos) : Type 0 where
  pub unsure : (q : Pos) → has final.unsure q ≡ false → has pending.unsure q ≡ false
  pub all : (q : Pos) → is_pending final q ≡ false → (same_place q p ≡ false) × (is_pending pending q ≡ false)
  pub falling : (q : Pos) → same_place q p ≡ false → has final.falling q ≡ true → has pending.falling q ≡ true
  pub rising : (q : Pos) → same_place q p ≡ false → has final.rising q ≡ true → has pending.rising q ≡ true

module _ (pending : PendingData) (p : Pos) where
  pub taken_unsure : IsTaken (record pending { unsure = pending.unsure ++ p ∷ [] }) pending p
  taken_unsure = record {
    unsure = λ q off none. both_none pending.unsure (p ∷ []) q none (just p q off);
    all = λ q off none. let parts = parts_of pending q none in
        of_parts (record pending { unsure = pending.unsure ++ p ∷ [] }) q
        (both_none pending.unsure (p ∷ []) q parts.0 (just p q off)) parts.1 parts.2;
    falling = λ q there. there;
    rising = λ q there. there;
  }

  pub taken_falling : IsTaken (record pending { falling = pending.falling ++ p ∷ [] }) pending p
  taken_falling = record {
    unsure = λ q off none. none;
    all = λ q off none. let parts = parts_of pending q none in
        of_parts (record pending { falling = pending.falling ++ p ∷ [] }) q
        parts.0 (both_none pending.falling (p ∷ []) q parts.1 (just p q off)) parts.2;
    falling = λ q there. has_joined pending.falling (p ∷ []) q ∙ or_left (has pending.falling q) (has (p ∷ []) q) there;
    rising = λ q there. there;
  }

  pub taken_rising : IsTaken (record pending { rising = pending.rising ++ p ∷ [] }) pending p
  taken_rising = record {
    unsure = λ q off none. none;
    all = λ q off none. let parts = parts_of pending q none in
        of_parts (record pending { rising = pending.rising ++ p ∷ [] }) q
        parts.0 parts.1 (both_none pending.rising (p ∷ []) q parts.2 (just p q off));
    falling = λ q there. there;
    rising = λ q there. has_joined pending.rising (p ∷ []) q ∙ or_left (has pending.rising q) (has (p ∷ []) q) there;
  }

module _ (w : Pos → Cell) (level : Pos → ℕ) (before pending : PendingData) (p : Pos)
    (taken : IsTaken before pending p) (kept : AreKept w level before) where
  -- what holds at p, and of every other position
  here_or : {P : Pos → Type 0} → P p → ((q : Pos) → same_place q p ≡ false → P q) → (q : Pos) → P q
  here_or {P = P} here others q = elim (cases_Bool (same_place q p)) [
    | inl same ↦ subst P (sym (place_is q p same)) here
    | inr off ↦ others q off
  ]

  -- p was looked at and left
  pub left_out : (is_dust (w p) ≡ true → ((level p == 15) ≡ is_fed w p) × IsConsistent w level p)
      → AreKept w level pending
  left_out right = record {
    low = kept.low;
    fed = here_or {P = λ q. is_dust (w q) ≡ true → has pending.unsure q ≡ false → (level q == 15) ≡ is_fed w q}
        (λ dust none. (right dust).0)
        (λ q off dust none. kept.fed q dust (taken.unsure q off none));
    sure = here_or {P = λ q. is_dust (w q) ≡ true → is_pending pending q ≡ false → IsConsistent w level q}
        (λ dust none. (right dust).1)
        (λ q off dust none. kept.sure q dust (taken.all q off none));
  }

  -- p was put into another list
  pub moved_to : (final : PendingData) → ((level p == 15) ≡ is_fed w p) → IsMoved pending final p
      → AreKept w level final
  moved_to final fed moved = record {
    low = kept.low;
    fed = here_or {P = λ q. is_dust (w q) ≡ true → has final.unsure q ≡ false → (level q == 15) ≡ is_fed w q}
        (λ dust none. fed)
        (λ q off dust none. kept.fed q dust (taken.unsure q off (moved.unsure q none)));
    sure = λ q dust none. let parts = moved.all q none in kept.sure q dust (taken.all q parts.0 parts.1);
  }

  module _ (new : Pos → ℕ) where
    -- the level of p was taken away
    pub after_fall : (final : PendingData) → IsPut level new p 0 → is_fed w p ≡ false
        → final ≡ record pending {
          falling = pending.falling ++ linked_below w level (level p) (level p + 1) p;
          rising = pending.rising ++ p ∷ [];
        }
        → AreKept w new final
    after_fall final put isnt is = subst (AreKept w new) (sym is) (record {
      low = here_or {P = λ q. new q ≤ 15}
          (let v = put_here w level new p 0 put in omega (arith, v))
          (λ q off. let v = put_off w level new p 0 put q off in let most = kept.low q in omega (arith, v, most));
      fed = here_or {P = λ q. is_dust (w q) ≡ true → has pending.unsure q ≡ false → (new q == 15) ≡ is_fed w q}
          (λ dust none. ap (λ n. n == 15) (put_here w level new p 0 put) ∙ sym isnt)
          (λ q off dust none. ap (λ n. n == 15) (put_off w level new p 0 put q off) ∙ kept.fed q dust (taken.unsure q off none));
      sure = λ q dust none.
          let parts = parts_of (record pending {
            falling = pending.falling ++ linked_below w level (level p) (level p + 1) p;
            rising = pending.rising ++ p ∷ [];
          }) q none in
          let falling = none_in pending.falling (linked_below w level (level p) (level p + 1) p) q parts.1 in
          let rising = none_in pending.rising (p ∷ []) q parts.2 in
          let off = (or_parts (same_place q p) false rising.1).0 in
          fallen w level new p 0 put refl q off falling.1
          (kept.sure q dust (taken.all q off (of_parts pending q parts.0 falling.0 rising.0)));
    })

    -- p got a higher level
    pub after_rise : (final : PendingData) (to : ℕ) → IsPut level new p to → level p ≤ to → to ≤ 15
        → (to == 15) ≡ is_fed w p → IsConsistent w new p
        → final ≡ record pending { rising = pending.rising ++ linked_below w level 0 to p }
        → AreKept w new final
    after_rise final to put more most fed own is = subst (AreKept w new) (sym is) (record {
      low = here_or {P = λ q. new q ≤ 15}
          (let v = put_here w level new p to put in omega (arith, v, most))
          (λ q off. let v = put_off w level new p to put q off in let most = kept.low q in omega (arith, v, most));
      fed = here_or {P = λ q. is_dust (w q) ≡ true → has pending.unsure q ≡ false → (new q == 15) ≡ is_fed w q}
          (λ dust none. ap (λ n. n == 15) (put_here w level new p to put) ∙ fed)
          (λ q off dust none. ap (λ n. n == 15) (put_off w level new p to put q off) ∙ kept.fed q dust (taken.unsure q off none));
      sure = here_or {P = λ q. is_dust (w q) ≡ true
          → is_pending (record pending { rising = pending.rising ++ linked_below w level 0 to p }) q ≡ false
          → IsConsistent w new q}
          (λ dust none. own)
          (λ q off dust none.
          let parts = parts_of (record pending { rising = pending.rising ++ linked_below w level 0 to p }) q none in
          let rising = none_in pending.rising (linked_below w level 0 to p) q parts.2 in
          risen w level new p to put more q off rising.1
          (kept.sure q dust (taken.all q off (of_parts pending q parts.0 parts.1 rising.0))));
    })

module _ (pending : PendingData) (p : Pos) where
  pub now_falling : (final : PendingData) → final ≡ record pending { falling = pending.falling ++ p ∷ [] }
      → IsMoved pending final p
  now_falling final is = record {
    unsure = λ q none. sym (ap (λ d. has d.unsure q) is) ∙ none;
    all = λ q none.
        let parts = parts_of (record pending { falling = pending.falling ++ p ∷ [] }) q (sym (ap (λ d. is_pending d q) is) ∙ none) in
        let falling = none_in pending.falling (p ∷ []) q parts.1 in
        ((or_parts (same_place q p) false falling.1).0, of_parts pending q parts.0 falling.0 parts.2);
    falling = λ q off there. last_or pending.falling p q (sym (ap (λ d. has d.falling q) is) ∙ there) off;
    rising = λ q off there. sym (ap (λ d. has d.rising q) is) ∙ there;
  }

  pub now_rising : (final : PendingData) → final ≡ record pending { rising = pending.rising ++ p ∷ [] }
      → IsMoved pending final p
  now_rising final is = record {
    unsure = λ q none. sym (ap (λ d. has d.unsure q) is) ∙ none;
    all = λ q none.
        let parts = parts_of (record pending { rising = pending.rising ++ p ∷ [] }) q (sym (ap (λ d. is_pending d q) is) ∙ none) in
        let rising = none_in pending.rising (p ∷ []) q parts.2 in
        ((or_parts (same_place q p) false rising.1).0, of_parts pending q parts.0 parts.1 rising.0);
    falling = λ q off there. sym (ap (λ d. has d.falling q) is) ∙ there;
    rising = λ q off there. last_or pending.rising p q (sym (ap (λ d. has d.rising q) is) ∙ there) off;
  }

pub under_15 : (n : ℕ) → n < 15 → (n == 15) ≡ false
under_15 n less = elim (cases_Bool (n == 15)) [ inl is ↦ let same = eqb-true n 15 is in absurd (omega (arith, less, same)) | inr isnt ↦ isnt ]

pub not_15 : (was n : ℕ) → was ≡ n → was ≢ 15 → (n == 15) ≡ false
not_15 was n is other = elim (cases_Bool (n == 15)) [ inl is_15 ↦ let same = eqb-true n 15 is_15 in absurd (other (is ∙ same)) | inr isnt ↦ isnt ]

-- levels that are right but at some positions
pub begun_at : (w : Pos → Cell) (level : Pos → ℕ) (unsure : List Pos) → ((p : Pos) → level p ≤ 15)
    → ((p : Pos) → is_dust (w p) ≡ true → has unsure p ≡ false → IsConsistent w level p)
    → AreKept w level (record { unsure = unsure; falling = []; rising = [] })
begun_at w level unsure low right = record {
  low = low;
  fed = λ p dust none. known p (right p dust none) (is_fed w p) refl;
  sure = λ p dust none. right p dust (or_parts (has unsure p) false none).0;
}
  where
    known : (p : Pos) → IsConsistent w level p → (b : Bool) → is_fed w p ≡ b → (level p == 15) ≡ is_fed w p
    known p right true is = ap (λ n. n == 15) (right ∙ told_fed (is_fed w) (links w) level p is) ∙ sym is
    known p right false isnt =
        let told = right ∙ told_unfed (is_fed w) (links w) level p isnt in
        let most = greatest_most level (links w p) 15 (λ q among. low q) in
        under_15 (level p) (omega (arith, told, most)) ∙ sym isnt

-- where nothing is pending all is right
pub all_exact : (w : Pos → Cell) (level : Pos → ℕ) → AreKept w level (record { unsure = []; falling = []; rising = [] }) → IsExactOn w level
all_exact w level kept = consistent_is_exact w level (λ p dust. (kept.low p, kept.sure p dust refl))

-- two facts of what went well, and three
pub on_ok_both : {T E P Q R : Type 0} (r : Result T E) → (P → Q → R) → OnOk r P → OnOk r Q → OnOk r R
on_ok_both (Ok v) both p q = both p q
on_ok_both (Err e) both p q = tt

pub on_ok_three : {T E P Q R S : Type 0} (r : Result T E) → (P → Q → R → S) → OnOk r P → OnOk r Q → OnOk r R → OnOk r S
on_ok_three (Ok v) all p q r = all p q r
on_ok_three (Err e) all p q r = tt

-- the greatest of three lists, and of four
pub greatest_of_three : {X : Type 0} (level : X → ℕ) (a b c : List X) (x y z yz r : ℕ)
    → x ≡ greatest level a → y ≡ greatest level b → z ≡ greatest level c → yz ≡ max y z → r ≡ max x yz
    → r ≡ greatest level (a ++ (b ++ c))
greatest_of_three level a b c x y z yz r is_x is_y is_z is_yz is_r =
    is_r ∙ ap (λ n. max n yz) is_x
    ∙ ap (λ n. max (greatest level a) n) (is_yz ∙ ap (λ n. max n z) is_y ∙ ap (λ n. max (greatest level b) n) is_z
    ∙ sym (greatest_joined level b c))
    ∙ sym (greatest_joined level a (b ++ c))

pub greatest_of_four : {X : Type 0} (level : X → ℕ) (a b c d : List X) (x y z u xy zu r : ℕ)
    → x ≡ greatest level a → y ≡ greatest level b → z ≡ greatest level c → u ≡ greatest level d
    → xy ≡ max x y → zu ≡ max z u → r ≡ max xy zu
    → r ≡ greatest level (a ++ (b ++ (c ++ d)))
greatest_of_four level a b c d x y z u xy zu r is_x is_y is_z is_u is_xy is_zu is_r =
    is_r ∙ ap (λ n. max n zu) is_xy ∙ sym (max_joined x y zu)
    ∙ greatest_of_three level a b (c ++ d) x y zu (max y zu) (max x (max y zu)) is_x is_y
    (is_zu ∙ ap (λ n. max n u) is_z ∙ ap (λ n. max (greatest level c) n) is_u ∙ sym (greatest_joined level c d)) refl refl
