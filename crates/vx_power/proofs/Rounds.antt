-- One link further: what a round leaves in the table is what longer walks tell.
use Rattle.std.proofs.Common.{◌≡◌, ℕ, zero, suc, ◌-◌, ◌≤◌, Bool, true, false, not, ◌&&◌, ◌||◌, if◌then◌else◌, nat_lt, List, [], inl, inr, refl, sym, ap, ◌∙◌, subst, arith}
use Rattle.std.specs.List.{list_any}
use Rattle.std.proofs.lemmas.Bool.{and_parts, and_from, cases_Bool, false≢true, lt-ltb, not_from_false, or_parts, or_right}
use Rattle.std.proofs.lemmas.Bool.Decides.{same_from_decides}
use Rattle.vx_geom.specs.declared.pos.Pos.{Pos}
use Rattle.vx_block.specs.declared.cell.Cell.{Cell}
use Rattle.vx_power.specs.Dust.{links}
use Rattle.vx_power.specs.Levels.{has, level_in}
use Rattle.vx_power.specs.Spreading.{before, linked_to, links_in, Reaches, SpreadData, IsSpread}
use Rattle.vx_power.specs.Walks.{within, level_by, IsAmong}
use Rattle.vx_power.proofs.Having.{has_at, has_from, all_at, all_from}
use Rattle.vx_power.proofs.Linking.{links_lead_back}
use Rattle.vx_power.proofs.Reach.{any_at, any_from, tells, within_more}

module _ {X : Type 0} (fed : X → Bool) (links : X → List X) where
  -- what is not within one link more is not within
  not_less : (n : ℕ) (p : X) → within fed links (suc n) p ≡ false → within fed links n p ≡ false
  unfolding within
  not_less n p away = (or_parts (within fed links n p) (list_any (within fed links n) (links p)) away).0

  -- what is not within no link is not fed
  unfed : (p : X) → within fed links zero p ≡ false → fed p ≡ false
  unfolding within
  unfed p away = away

  -- a place that is not within has no level
  pub no_level : (n : ℕ) (p : X) → within fed links n p ≡ false → level_by fed links n p ≡ 0
  unfolding level_by
  no_level zero p away = ap (λ b. if b then 15 else 0) (unfed p away)
  no_level (suc n) p away =
      ap (λ b. if b then level_by fed links n p else if within fed links (suc n) p then 14 - n else 0)
      (not_less n p away)
      ∙ ap (λ b. if b then 14 - n else 0) away

  -- after so many links the places with a level are those within
  pub has_level : (n : ℕ) (p : X) → n ≤ 14 → nat_lt 0 (level_by fed links n p) ≡ within fed links n p
  has_level n p few = elim (cases_Bool (within fed links n p)) [
    | inl near ↦
        let most = (tells fed links n p few).reached n (omega arith) near in
        lt-ltb 0 (level_by fed links n p) (omega (arith, most, few)) ∙ sym near
    | inr away ↦ ap (λ level. nat_lt 0 level) (no_level n p away) ∙ sym away
  ]

  -- a walk of one link more goes by a place that was reached last
  linked_last : (n : ℕ) (p q : X) → within fed links n p ≡ false → IsAmong (links p) q
      → within fed links n q ≡ true → before fed links n q ≡ false
  unfolding within
  linked_last zero p q away linked near = refl
  linked_last (suc n) p q away linked near = elim (cases_Bool (within fed links n q)) [
    | inr is ↦ is
    | inl is ↦ absurd (false≢true
        (sym away ∙ or_right (within fed links n p) (list_any (within fed links n) (links p))
        (any_from (within fed links n) (links p) q linked is)))
  ]

-- the level of a position inside, and whether it has one
level_inside : (i b : Bool) (v : ℕ) → nat_lt 0 v ≡ b → nat_lt 0 (if i then v else 0) ≡ (i && b)
level_inside true b v is = is
level_inside false b v is = refl

-- a choice after a first one that fails
next_level : (i a b c : Bool) (old new : ℕ) → (i ≡ true → a ≡ false → b ≡ c)
    → (if i && a then (if i then old else 0) else if i && c then new else 0)
    ≡ (if i then (if a then old else if b then new else 0) else 0)
next_level false a b c old new same = refl
next_level true true b c old new same = refl
next_level true false b c old new same = ap (λ b. if b then new else 0) (sym (same refl refl))

-- what is gained is what is reached now and was not before
last_reached : (i a b c : Bool) → (a ≡ true → b ≡ true) → (i ≡ true → a ≡ false → b ≡ c)
    → (not (i && a) && (i && c)) ≡ (i && (b && not a))
last_reached false a b c more same = refl
last_reached true true true c more same = refl
last_reached true true false c more same = refl
last_reached true false true c more same = sym (same refl refl)
last_reached true false false c more same = sym (same refl refl)

-- what is reached first
first_level : (i c f : Bool) (level : ℕ) → (i ≡ true → c ≡ f)
    → (if i && c then level else 0) ≡ (if i then (if f then level else 0) else 0)
first_level true c f level same = ap (λ b. if b then level else 0) (same refl)
first_level false c f level same = refl

first_reached : (i c f : Bool) → (i ≡ true → c ≡ f) → (i && c) ≡ (i && (f && true))
first_reached true c true same = same refl
first_reached true c false same = same refl
first_reached false c f same = refl

-- a spread begins with the fed places inside
pub begun : (inside fed : Pos → Bool) (links : Pos → List Pos) (new : SpreadData) (ps : List Pos)
    → ((p : Pos) → inside p ≡ true → has ps p ≡ fed p)
    → Reaches inside 15 (record { table = []; reached = [] }) new ps → IsSpread inside fed links 0 new
unfolding within level_by
begun inside fed links new ps same reaches = record {
  levels = λ p. reaches.levels p ∙ first_level (inside p) (has ps p) (fed p) 15 (same p);
  reached = λ p. reaches.reached p ∙ first_reached (inside p) (has ps p) (fed p) (same p);
}

-- a round that reaches what links to a place within tells what walks of one link more tell
module _ (inside fed : Pos → Bool) (links : Pos → List Pos) (n : ℕ) (s new : SpreadData) (ps : List Pos)
    (few : n ≤ 13) (spread : IsSpread inside fed links n s)
    (gained : (p : Pos) → inside p ≡ true → within fed links n p ≡ false
    → list_any (within fed links n) (links p) ≡ has ps p)
    (round : Reaches inside (14 - n) (record s { reached = [] }) new ps)
  where
    -- a position has a level just where it is inside and within
    had_level : (p : Pos) → nat_lt 0 (level_in s.table p) ≡ (inside p && within fed links n p)
    had_level p =
        ap (λ level. nat_lt 0 level) (spread.levels p)
        ∙ level_inside (inside p) (within fed links n p) (level_by fed links n p)
        (has_level fed links n p (omega (arith, few)))

    -- within one link more are those within, and those that the round reaches
    grown : (p : Pos) → inside p ≡ true → within fed links n p ≡ false
        → within fed links (suc n) p ≡ has ps p
    unfolding within
    grown p there away =
        ap (λ b. b || list_any (within fed links n) (links p)) away ∙ gained p there away

    -- the levels are those of one link more
    new_level : (p : Pos)
        → level_in new.table p ≡ (if inside p then level_by fed links (suc n) p else 0)
    unfolding level_by
    new_level p =
        round.levels p
        ∙ ap (λ b. if b then level_in s.table p else if inside p && has ps p then 14 - n else 0) (had_level p)
        ∙ ap (λ level. if inside p && within fed links n p
        then level
        else if inside p && has ps p then 14 - n else 0)
        (spread.levels p)
        ∙ next_level (inside p) (within fed links n p) (within fed links (suc n) p) (has ps p)
        (level_by fed links n p) (14 - n) (grown p)

    -- and those reached are the last ones of it
    new_reached : (p : Pos) → has new.reached p
        ≡ (inside p && (within fed links (suc n) p && not (within fed links n p)))
    new_reached p =
        round.reached p
        ∙ ap (λ b. not b && (inside p && has ps p)) (had_level p)
        ∙ last_reached (inside p) (within fed links n p) (within fed links (suc n) p) (has ps p)
        (within_more fed links n p) (grown p)

    pub round_done : IsSpread inside fed links (suc n) new
    round_done = record { levels = new_level; reached = new_reached }

-- the links of dust that is inside
links_there : (w : Pos → Cell) (inside : Pos → Bool) (p : Pos) → inside p ≡ true → links_in w inside p ≡ links w p
unfolding links_in
links_there w inside p there = ap (λ b. if b then links w p else []) there

-- walks that stay inside, from places there that are fed
module _ (w : Pos → Cell) (inside fed : Pos → Bool) (only : (p : Pos) → inside p ≡ false → fed p ≡ false) where
  -- nothing outside is within
  none_outside : (n : ℕ) (p : Pos) → inside p ≡ false → within fed (links_in w inside) n p ≡ false
  unfolding within links_in
  none_outside zero p outside = only p outside
  none_outside (suc n) p outside =
      ap (λ b. b || list_any (within fed (links_in w inside) n) (links_in w inside p)) (none_outside n p outside)
      ∙ ap (λ b. list_any (within fed (links_in w inside) n) (if b then links w p else [])) outside

  -- so what is within is inside
  within_inside : (n : ℕ) (p : Pos) → within fed (links_in w inside) n p ≡ true → inside p ≡ true
  within_inside n p near = elim (cases_Bool (inside p)) [
    | inl there ↦ there
    | inr outside ↦ absurd (false≢true (sym (none_outside n p outside) ∙ near))
  ]

  -- and the table tells all levels
  pub all_told : (s : SpreadData) → IsSpread inside fed (links_in w inside) 14 s
      → (p : Pos) → level_in s.table p ≡ level_by fed (links_in w inside) 14 p
  all_told s spread p = spread.levels p
      ∙ either (inside p) (λ outside. no_level fed (links_in w inside) 14 p (none_outside 14 p outside))
    where
      either : {v : ℕ} (i : Bool) → (i ≡ false → v ≡ 0) → (if i then v else 0) ≡ v
      either true none = refl
      either false none = sym (none refl)

  module _ (n : ℕ) (s : SpreadData) (spread : IsSpread inside fed (links_in w inside) n s) where
    -- the places within so far
    abbrev near : Pos → Bool
    near = within fed (links_in w inside) n

    -- a position out of reach so far that links to one within is linked to by what was reached last
    to_gained : (p : Pos) → inside p ≡ true → near p ≡ false → list_any near (links w p) ≡ true
        → has (linked_to w s.reached) p ≡ true
    to_gained p there away is =
        let next = any_at near (links w p) is in
        let q = next.0 in
        let linked = subst (λ qs. IsAmong qs q) (sym (links_there w inside p there)) next.1 in
        let last = linked_last fed (links_in w inside) n p q away linked next.2 in
        let reached = spread.reached q
        ∙ and_from (inside q) (near q && not (before fed (links_in w inside) n q)) (within_inside n q next.2)
        (and_from (near q) (not (before fed (links_in w inside) n q)) next.2
        (not_from_false (before fed (links_in w inside) n q) last)) in
        all_from (links w) (linked_to w) refl (λ _ _. refl) s.reached p q (has_at s.reached q reached)
        (has_from (links w q) p (links_lead_back w p q next.1))

    -- what is linked to by what was reached last links to one within
    from_gained : (p : Pos) → has (linked_to w s.reached) p ≡ true → list_any near (links w p) ≡ true
    from_gained p is =
        let found = all_at (links w) (linked_to w) refl (λ _ _. refl) s.reached p is in
        let q = found.0 in
        let last = and_parts (inside q) (near q && not (before fed (links_in w inside) n q))
        (sym (spread.reached q) ∙ has_from s.reached q found.1) in
        any_from near (links w p) q (links_lead_back w q p (has_at (links w q) p found.2))
        (and_parts (near q) (not (before fed (links_in w inside) n q)) last.1).0

    -- so the two are one test
    pub gained_inside : (p : Pos) → inside p ≡ true → near p ≡ false
        → list_any near (links_in w inside p) ≡ has (linked_to w s.reached) p
    gained_inside p there away =
        ap (list_any near) (links_there w inside p there)
        ∙ same_from_decides {P = has (linked_to w s.reached) p ≡ true}
        (list_any near (links w p)) (has (linked_to w s.reached) p)
        (to_gained p there away, from_gained p) (λ h. h, λ h. h)
