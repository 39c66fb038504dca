-- One position looked at while levels are made right, over a table that keeps links too.
use Rattle.std.proofs.Common.{◌≡◌, ℕ, ◌+◌, ◌-◌, ◌<◌, ◌≤◌, ◌==◌, ◌≢◌, inl, inr, Bool, true, false, if◌then◌else◌, List, [], ◌∷◌, ◌++◌, refl, sym, ap, ◌∙◌, subst, arith}
use Rattle.std.specs.List.{filter}
use Rattle.std.proofs.lemmas.Bool.{cases_Bool, and_parts, or_cases, or_parts, or_right, eqb-true, false≢true}
use Rattle.vx_geom.specs.declared.pos.Pos.{Pos}
use Rattle.vx_block.specs.declared.cell.Cell.{Cell}
use Rattle.vx_block.specs.Components.{is_dust}
use Rattle.vx_levels.specs.Consistency.{greatest, pulled, IsConsistent}
use Rattle.vx_levels.specs.Linked.{level_at, links_at, linked, KnowsLinks}
use Rattle.vx_levels.specs.Pending.{PendingData, AreKept, is_between, IsPut}
use Rattle.vx_levels.specs.Repairs.{AreDust, Follows, IsRight, IsRightBut, IsUnderRepair}
use Rattle.vx_levels.proofs.Agreeing.{greatest_same, links_to_dust, told_fed, told_unfed}
use Rattle.vx_levels.proofs.Keeping.{IsMoved, IsTaken, none_in, left_out, moved_to, after_fall, after_rise, begun_at, all_exact, greatest_most, own_right, not_15, under_15}
use Rattle.vx_power.specs.Dust.{links}
use Rattle.vx_power.specs.Levels.{LevelTable, has, same_place}
use Rattle.vx_power.specs.Signals.{is_fed}
use Rattle.vx_power.proofs.Having.{place_is, has_at, has_from, has_joined, has_filter}

-- two lists of dust are one of dust, joined
both_dust : (w : Pos → Cell) (ps qs : List Pos) → AreDust w ps → AreDust w qs → AreDust w (ps ++ qs)
both_dust w ps qs first rest q there = elim (or_cases (has ps q) (has qs q) (sym (has_joined ps qs q) ∙ there)) [
  | inl before ↦ first q before
  | inr after ↦ rest q after
]

-- and so is dust alone
one_dust : (w : Pos → Cell) (p : Pos) → is_dust (w p) ≡ true → AreDust w (p ∷ [])
one_dust w p dust q there = elim (or_cases (same_place q p) false there) [
  | inl same ↦ ap (λ r. is_dust (w r)) (place_is q p same) ∙ dust
  | inr none ↦ absurd (false≢true none)
]

-- and what dust links to, of whatever level
links_dust : (w : Pos → Cell) (test : Pos → Bool) (p : Pos) → AreDust w (filter test (links w p))
links_dust w test p q there =
    let kept = and_parts (test q) (has (links w p) q) (sym (has_filter test (links w p) q) ∙ there) in
    links_to_dust w p q (has_at (links w p) q kept.1)

-- what is listed last is dust where all are
last_dust : (w : Pos → Cell) (ps : List Pos) (p : Pos) → AreDust w (ps ++ p ∷ []) → is_dust (w p) ≡ true
last_dust w ps p all =
    all p (has_joined ps (p ∷ []) p ∙ or_right (has ps p) (has (p ∷ []) p) (has_from (p ∷ []) p (inl refl)))

-- so what is taken to fall or rise is
pub falling_dust : (w : Pos → Cell) (table : LevelTable) (pending : PendingData) (p : Pos)
    → IsUnderRepair w table (record pending { falling = pending.falling ++ p ∷ [] }) → is_dust (w p) ≡ true
falling_dust w table pending p right = last_dust w pending.falling p right.falling

pub rising_dust : (w : Pos → Cell) (table : LevelTable) (pending : PendingData) (p : Pos)
    → IsUnderRepair w table (record pending { rising = pending.rising ++ p ∷ [] }) → is_dust (w p) ≡ true
rising_dust w table pending p right = last_dust w pending.rising p right.rising

-- one position more is listed, where the level is another
pub follows_put : {more : List Pos} {p : Pos} {level : ℕ} (put : List Pos) (old new : LevelTable) → more ≡ put ++ p ∷ []
    → IsPut (level_at old) (level_at new) p level → Follows put old more new
follows_put {p = p} {level = level} put old new is changed q none =
    let parts = none_in put (p ∷ []) q (sym (ap (λ ps. has ps q) is) ∙ none) in
    let off = (or_parts (same_place q p) false parts.1).0 in
    (parts.0, changed q ∙ ap (λ b. if b then level else level_at old q) off)

-- levels that stayed before others changed
pub follows_on : (put more : List Pos) (old middle new : LevelTable) → ((p : Pos) → level_at middle p ≡ level_at old p)
    → Follows put middle more new → Follows put old more new
follows_on put more old middle new stay follows p none = let after = follows p none in (after.0, after.1 ∙ stay p)

-- levels that are right but at some positions
pub begun_right : (w : Pos → Cell) (table : LevelTable) (unsure : List Pos) → IsRightBut w table unsure
    → IsUnderRepair w table (record { unsure = unsure; falling = []; rising = [] })
begun_right w table unsure right = record {
  kept = begun_at w (level_at table) unsure (λ p. omega arith) right.consistent;
  linked = right.linked;
  empty = right.empty;
  falling = λ p there. absurd (false≢true there);
  rising = λ p there. absurd (false≢true there);
}

-- where nothing is pending all is right
pub all_right : (w : Pos → Cell) (table : LevelTable) → IsUnderRepair w table (record { unsure = []; falling = []; rising = [] }) → IsRight w table
all_right w table right = record {
  exact = all_exact w (level_at table) right.kept;
  linked = λ p. right.linked p refl;
  empty = λ p bare. right.empty p bare refl;
}

module _ (w : Pos → Cell) (old : LevelTable) (before pending : PendingData) (p : Pos)
    (taken : IsTaken before pending p) (right : IsUnderRepair w old before)
    (known : KnowsLinks w old p) (dust : is_dust (w p) ≡ true) where
  -- the links of all that is sure are known, where no links have changed
  links_known : (new : LevelTable) → ((q : Pos) → links_at new q ≡ links_at old q)
      → (q : Pos) → has pending.unsure q ≡ false → KnowsLinks w new q
  links_known new stay q none dust = ap (λ n. linked n q) (stay q) ∙ at q none dust
    where
      at : (q : Pos) → has pending.unsure q ≡ false → KnowsLinks w old q
      at q none = elim (cases_Bool (same_place q p)) [
        | inl same ↦ subst (KnowsLinks w old) (sym (place_is q p same)) known
        | inr off ↦ right.linked q (taken.unsure q off none)
      ]

  -- and what is no dust has no level, where only that of dust has changed
  still_empty : (new : LevelTable) → ((q : Pos) → is_dust (w q) ≡ false → level_at new q ≡ level_at old q)
      → (q : Pos) → is_dust (w q) ≡ false → has pending.unsure q ≡ false → level_at new q ≡ 0
  still_empty new stay q bare none = stay q bare ∙ at q bare none
    where
      at : (q : Pos) → is_dust (w q) ≡ false → has pending.unsure q ≡ false → level_at old q ≡ 0
      at q bare none = elim (cases_Bool (same_place q p)) [
        | inl same ↦ absurd (false≢true (sym bare ∙ ap (λ r. is_dust (w r)) (place_is q p same) ∙ dust))
        | inr off ↦ right.empty q bare (taken.unsure q off none)
      ]

  -- what may fall or rise is dust still
  still_falling : AreDust w pending.falling
  still_falling q there = right.falling q (taken.falling q there)

  still_rising : AreDust w pending.rising
  still_rising q there = right.rising q (taken.rising q there)

  -- it was looked at and left
  pub left_right : (level_at old p == 15) ≡ is_fed w p → IsConsistent w (level_at old) p → IsUnderRepair w old pending
  left_right fed agrees = record {
    kept = left_out w (level_at old) before pending p taken right.kept (λ _. (fed, agrees));
    linked = links_known old (λ q. refl);
    empty = still_empty old (λ q bare. refl);
    falling = still_falling;
    rising = still_rising;
  }

  -- it is fed, and has the level of fed dust
  pub fed_right : is_fed w p ≡ true → level_at old p ≡ 15 → IsUnderRepair w old pending
  fed_right fed level = left_right
      (ap (λ n. n == 15) level ∙ sym fed)
      (level ∙ sym (told_fed (is_fed w) (links w) (level_at old) p fed))

  -- it is not, and has what its links tell
  pub told_right : is_fed w p ≡ false → (was told : ℕ) → was ≡ level_at old p → was ≢ 15
      → told ≡ (if was == 15 then 15 else greatest (level_at old) (linked (links_at old p) p) - 1) → told ≡ was
      → IsUnderRepair w old pending
  told_right unfed was told level other is same = left_right
      (not_15 was (level_at old p) level other ∙ sym unfed)
      (sym level ∙ sym same ∙ is
      ∙ ap (λ b. if b then 15 else greatest (level_at old) (linked (links_at old p) p) - 1) (not_15 was was refl other)
      ∙ ap (λ qs. greatest (level_at old) qs - 1) (known dust)
      ∙ sym (told_unfed (is_fed w) (links w) (level_at old) p unfed))

  -- it was put into another list
  pub moved_right : (final : PendingData) → ((level_at old p == 15) ≡ is_fed w p) → IsMoved pending final p
      → IsUnderRepair w old final
  moved_right final fed moved = record {
    kept = moved_to w (level_at old) before pending p taken right.kept final fed moved;
    linked = λ q none. links_known old (λ q. refl) q (moved.unsure q none);
    empty = λ q bare none. still_empty old (λ q bare. refl) q bare (moved.unsure q none);
    falling = λ q there. elim (cases_Bool (same_place q p)) [
      | inl same ↦ ap (λ r. is_dust (w r)) (place_is q p same) ∙ dust
      | inr off ↦ still_falling q (moved.falling q off there)
    ];
    rising = λ q there. elim (cases_Bool (same_place q p)) [
      | inl same ↦ ap (λ r. is_dust (w r)) (place_is q p same) ∙ dust
      | inr off ↦ still_rising q (moved.rising q off there)
    ];
  }

  -- what it links to, of such a level that one more lies from `least` up to below `bound`
  abbrev links_between : ℕ → ℕ → List Pos
  links_between least bound = filter (is_between (level_at old) least bound) (linked (links_at old p) p)

  -- is dust, too
  links_lie : (least bound : ℕ) → AreDust w (links_between least bound)
  links_lie least bound =
      subst (λ qs. AreDust w (filter (is_between (level_at old) least bound) qs)) (sym (known dust))
      (links_dust w (is_between (level_at old) least bound) p)

  module _ (new : LevelTable) (final : PendingData) (stay : (q : Pos) → links_at new q ≡ links_at old q) where
    -- another level of dust leaves those of all that is no dust
    dust_put : (to : ℕ) → IsPut (level_at old) (level_at new) p to → (q : Pos) → is_dust (w q) ≡ false → level_at new q ≡ level_at old q
    dust_put to put q bare = elim (cases_Bool (same_place q p)) [
      | inl same ↦ absurd (false≢true (sym bare ∙ ap (λ r. is_dust (w r)) (place_is q p same) ∙ dust))
      | inr off ↦ put q ∙ ap (λ b. if b then to else level_at old q) off
    ]

    -- its level was taken away
    pub fallen_right : (was : ℕ) → was ≡ level_at old p → is_fed w p ≡ false → IsPut (level_at old) (level_at new) p 0
        → final ≡ record pending {
          falling = pending.falling ++ filter (is_between (level_at old) was (was + 1)) (linked (links_at old p) p);
          rising = pending.rising ++ p ∷ [];
        }
        → IsUnderRepair w new final
    fallen_right was level unfed put is = record {
      kept = after_fall w (level_at old) before pending p taken right.kept (level_at new) final put unfed
          (is ∙ (λ i. record pending {
            falling = pending.falling ++ filter (is_between (level_at old) (level i) (level i + 1)) (known dust i);
            rising = pending.rising ++ p ∷ [];
          }));
      linked = λ q none. links_known new stay q (sym (ap (λ d. has d.unsure q) is) ∙ none);
      empty = λ q bare none. still_empty new (dust_put 0 put) q bare (sym (ap (λ d. has d.unsure q) is) ∙ none);
      falling = subst (λ d. AreDust w d.falling) (sym is)
          (both_dust w pending.falling (links_between was (was + 1)) still_falling (links_lie was (was + 1)));
      rising = subst (λ d. AreDust w d.rising) (sym is)
          (both_dust w pending.rising (p ∷ []) still_rising (one_dust w p dust));
    }

    -- it got a higher level
    pub risen_right : (to : ℕ) → IsPut (level_at old) (level_at new) p to → level_at old p ≤ to → to ≤ 15
        → (to == 15) ≡ is_fed w p → IsConsistent w (level_at new) p
        → final ≡ record pending {
          rising = pending.rising ++ filter (is_between (level_at old) 0 to) (linked (links_at old p) p);
        }
        → IsUnderRepair w new final
    risen_right to put more most fed own is = record {
      kept = after_rise w (level_at old) before pending p taken right.kept (level_at new) final to put more most fed own
          (is ∙ (λ i. record pending { rising = pending.rising ++ filter (is_between (level_at old) 0 to) (known dust i) }));
      linked = λ q none. links_known new stay q (sym (ap (λ d. has d.unsure q) is) ∙ none);
      empty = λ q bare none. still_empty new (dust_put to put) q bare (sym (ap (λ d. has d.unsure q) is) ∙ none);
      falling = subst (λ d. AreDust w d.falling) (sym is) still_falling;
      rising = subst (λ d. AreDust w d.rising) (sym is)
          (both_dust w pending.rising (links_between 0 to) still_rising (links_lie 0 to));
    }

-- dust of which it is known what it links to, and whether it is fed
module _ {w : Pos → Cell} {old : LevelTable} {before pending : PendingData} {p : Pos}
    (taken : IsTaken before pending p) (right : IsUnderRepair w old before)
    (none : before.unsure ≡ []) (dust : is_dust (w p) ≡ true) where
  known : has before.unsure p ≡ false
  known = ap (λ ps. has ps p) none

  links_here : KnowsLinks w old p
  links_here = right.linked p known

  -- it has one level and is told one
  module _ {was told : ℕ} (level : was ≡ level_at old p)
      (is : told ≡ (if was == 15 then 15 else greatest (level_at old) (linked (links_at old p) p) - 1)) where
    fed_here : (level_at old p == 15) ≡ is_fed w p
    fed_here = right.kept.fed p dust known

    told_here : told ≡ pulled (is_fed w) (links w) (level_at old) p
    unfolding pulled
    told_here =
        is
        ∙ ap (λ b. if b then 15 else greatest (level_at old) (linked (links_at old p) p) - 1) (ap (λ n. n == 15) level ∙ fed_here)
        ∙ ap (λ qs. if is_fed w p then 15 else greatest (level_at old) qs - 1) (links_here dust)

    -- fed dust is told what it has
    not_fed : (was ≡ told → ⊥) → is_fed w p ≡ false
    not_fed other = elim (cases_Bool (is_fed w p)) [
      | inl fed ↦ absurd (other (level ∙ eqb-true (level_at old p) 15 (fed_here ∙ fed)
          ∙ sym (told_here ∙ told_fed (is_fed w) (links w) (level_at old) p fed)))
      | inr unfed ↦ unfed
    ]

    -- it has what it is told
    pub agreed_right : was ≡ told → IsUnderRepair w old pending
    agreed_right same = left_right w old before pending p taken right links_here dust
        fed_here (sym level ∙ same ∙ told_here)

    -- it has to be looked at again
    pub waits_right : (final : PendingData) → IsMoved pending final p → IsUnderRepair w old final
    waits_right final = moved_right w old before pending p taken right links_here dust final fed_here

    module _ (new : LevelTable) (final : PendingData) (stay : (q : Pos) → links_at new q ≡ links_at old q) where
      -- its level was too high, and is gone
      pub lowered_right : told < was → IsPut (level_at old) (level_at new) p 0
          → final ≡ record pending {
            falling = pending.falling ++ filter (is_between (level_at old) was (was + 1)) (linked (links_at old p) p);
            rising = pending.rising ++ p ∷ [];
          }
          → IsUnderRepair w new final
      lowered_right less = fallen_right w old before pending p taken right links_here dust new final stay
          was level (not_fed (λ same. omega (arith, less, same)))

      -- its level was too low, and is what it is told
      pub lifted_right : was < told → IsPut (level_at old) (level_at new) p told
          → final ≡ record pending {
            rising = pending.rising ++ filter (is_between (level_at old) 0 told) (linked (links_at old p) p);
          }
          → IsUnderRepair w new final
      lifted_right more put =
          let unfed = not_fed (λ same. omega (arith, more, same)) in
          let one_less = told_here ∙ told_unfed (is_fed w) (links w) (level_at old) p unfed in
          let most = greatest_most (level_at old) (links w p) 15 (λ q among. right.kept.low q) in
          let below : told < 15 = omega (arith, one_less, most) in
          risen_right w old before pending p taken right links_here dust new final stay told put
          (omega (arith, level, more)) (omega (arith, below)) (under_15 told below ∙ sym unfed)
          (own_right w (level_at old) (level_at new) p told put unfed one_less)

-- the links of a position of which nothing was known
module _ (w : Pos → Cell) (old new : LevelTable) (pending : PendingData) (p : Pos) (bits : ℕ)
    (relinked : (q : Pos) → links_at new q ≡ (if same_place q p then bits else links_at old q))
    (stay : (q : Pos) → level_at new q ≡ level_at old q) where
  pub relinked_right : IsUnderRepair w old (record pending { unsure = pending.unsure ++ p ∷ [] })
      → IsUnderRepair w new (record pending { unsure = pending.unsure ++ p ∷ [] })
  relinked_right right = record {
    kept = subst (λ level. AreKept w level (record pending { unsure = pending.unsure ++ p ∷ [] })) (λ i q. sym (stay q) i) right.kept;
    linked = λ q none dust.
        let off = (or_parts (same_place q p) false (none_in pending.unsure (p ∷ []) q none).1).0 in
        ap (λ n. linked n q) (relinked q ∙ ap (λ b. if b then bits else links_at old q) off) ∙ right.linked q none dust;
    empty = λ q bare none. stay q ∙ right.empty q bare none;
    falling = right.falling;
    rising = right.rising;
  }

-- no dust lies at a position any more: its level is gone, and no other changes
module _ (w : Pos → Cell) (old new : LevelTable) (before pending : PendingData) (p : Pos) (bare : is_dust (w p) ≡ false)
    (taken : IsTaken before pending p) (right : IsUnderRepair w old before)
    (put : IsPut (level_at old) (level_at new) p 0) (stay : (q : Pos) → links_at new q ≡ links_at old q) where
  off_dust : (q : Pos) → is_dust (w q) ≡ true → same_place q p ≡ false
  off_dust q dust = elim (cases_Bool (same_place q p)) [
    | inl same ↦ absurd (false≢true (sym bare ∙ sym (ap (λ r. is_dust (w r)) (place_is q p same)) ∙ dust))
    | inr off ↦ off
  ]

  kept_off : (q : Pos) → same_place q p ≡ false → level_at new q ≡ level_at old q
  kept_off q off = put q ∙ ap (λ b. if b then 0 else level_at old q) off

  agrees_still : (q : Pos) → is_dust (w q) ≡ true → IsConsistent w (level_at old) q → IsConsistent w (level_at new) q
  unfolding pulled
  agrees_still q dust agrees =
      kept_off q (off_dust q dust) ∙ agrees
      ∙ ap (λ n. if is_fed w q then 15 else n - 1)
      (sym (greatest_same (level_at new) (level_at old) (links w q) (λ r among. kept_off r (off_dust r (links_to_dust w q r among)))))

  pub cleared_right : IsUnderRepair w new pending
  cleared_right = record {
    kept = record {
      low = λ q. omega arith;
      fed = λ q dust none.
          let off = off_dust q dust in
          ap (λ n. n == 15) (kept_off q off) ∙ right.kept.fed q dust (taken.unsure q off none);
      sure = λ q dust none.
          let off = off_dust q dust in
          agrees_still q dust (right.kept.sure q dust (taken.all q off none));
    };
    linked = λ q none dust.
        let off = off_dust q dust in
        ap (λ n. linked n q) (stay q) ∙ right.linked q (taken.unsure q off none) dust;
    empty = λ q none_here none. elim (cases_Bool (same_place q p)) [
      | inl same ↦ put q ∙ ap (λ b. if b then 0 else level_at old q) same
      | inr off ↦ kept_off q off ∙ right.empty q none_here (taken.unsure q off none)
    ];
    falling = λ q there. right.falling q (taken.falling q there);
    rising = λ q there. right.rising q (taken.rising q there);
  }
