-- What is reached, one position or one list of positions after another.
use Rattle.std.proofs.Common.{◌≡◌, ℕ, zero, suc, ◌+◌, ◌-◌, ◌<◌, ◌≤◌, Bool, true, false, not, ◌&&◌, ◌||◌, if◌then◌else◌, nat_lt, List, [], ◌∷◌, ◌++◌, take, length, get_or, refl, sym, ap, ◌∙◌, subst, arith}
use Rattle.std.specs.List.{flat_map}
use Rattle.std.proofs.lemmas.Bool.{true≢false, lt-ltb, le-ltb, ltb-false}
use Rattle.std.proofs.lemmas.List.{append-nil, append_assoc, take_more, take_all}
use Rattle.std.proofs.lemmas.List.Concat.{flat_map-append}
use Rattle.std.proofs.lemmas.List.Folds.{list_any-append}
use Rattle.vx_geom.specs.declared.pos.Pos.{Pos}
use Rattle.vx_geom.specs.declared.dir.Dir.{Dir}
use Rattle.vx_geom.specs.declared.dir.Dir.TheVariants.{East, West, Up, Down, South, North}
use Rattle.vx_geom.specs.Dirs.{all_dirs}
use Rattle.vx_block.specs.declared.cell.Cell.{Cell}
use Rattle.vx_block.specs.declared.side.Side.{Side}
use Rattle.vx_block.specs.declared.side.Side.TheVariants as side
use Rattle.vx_block.specs.Components.{is_dust}
use Rattle.vx_block.specs.Sides.{all_sides}
use Rattle.vx_block.specs.States.{side_dir}
use Rattle.vx_cells.specs.Listed.{devices_on}
use Rattle.vx_cells.specs.Maps.{MapData}
use Rattle.vx_power.specs.Dust.{beside, links_beside, links_on, links}
use Rattle.vx_power.specs.Levels.{same_place, has, level_in}
use Rattle.vx_power.specs.Spreading.{dust_at, each_dir, fed_from, fed_by, fed_by_sectors, linked_to, SpreadData, Reaches}
use Rattle.vx_power.proofs.Having.{place_is}

-- the level that a position has after a step: `had` says whether it had one before, `v` which
abbrev level_after : ℕ → ℕ → Bool → Bool → Bool → ℕ
level_after level v had inside here = if had then v else if inside && here then level else 0

-- whether it is noted after the step
abbrev noted_after : Bool → Bool → Bool → Bool → Bool
noted_after was had inside here = was || (not had && (inside && here))

-- a position has a level
abbrev leveled : SpreadData → Pos → Bool
leveled s p = nat_lt 0 (level_in s.table p)

-- a position is in two lists joined where it is in one of them
pub has_joined : (xs ys : List Pos) (p : Pos) → has (xs ++ ys) p ≡ (has xs p || has ys p)
has_joined xs ys p = list_any-append (same_place p) xs ys

-- a level that is not over 0 is 0
no_level : (v : ℕ) → nat_lt 0 v ≡ false → v ≡ 0
no_level v none = let most = ltb-false 0 v none in omega (arith, most)

-- where there is nothing to reach nothing changes
nothing_more : (v level : ℕ) (had i : Bool) → nat_lt 0 v ≡ had → v ≡ level_after level v had i false
nothing_more v level true i is = refl
nothing_more v level false true is = no_level v is
nothing_more v level false false is = no_level v is

nothing_new : (r had i : Bool) → r ≡ noted_after r had i false
nothing_new true had i = refl
nothing_new false true i = refl
nothing_new false false true = refl
nothing_new false false false = refl

-- no position reached
pub reaches_none : {inside : Pos → Bool} {level : ℕ} {s : SpreadData} → Reaches inside level s s []
reaches_none {inside} {level} {s} = record {
  levels = λ p. nothing_more (level_in s.table p) level (leveled s p) (inside p) refl;
  reached = λ p. nothing_new (has s.reached p) (leveled s p) (inside p);
}

-- the same of another name of a list
pub reaches_as : {inside : Pos → Bool} {level : ℕ} {a b : SpreadData} {ps qs : List Pos} → ps ≡ qs
    → Reaches inside level a b ps → Reaches inside level a b qs
reaches_as {inside} {level} {a} {b} same reaches = subst (Reaches inside level a b) same reaches

-- and of other names of what it begins with, too
pub reaches_same : {inside : Pos → Bool} {level : ℕ} {a b c : SpreadData} {ps qs : List Pos} → a ≡ b → ps ≡ qs
    → Reaches inside level a c ps → Reaches inside level b c qs
reaches_same {inside} {level} {c = c} {ps = ps} same same_list reaches =
    reaches_as same_list (subst (λ s. Reaches inside level s c ps) same reaches)

-- nothing is reached where a list turns out to be empty
pub reaches_nothing : {inside : Pos → Bool} {level : ℕ} {s : SpreadData} {ps : List Pos} → ps ≡ []
    → Reaches inside level s s ps
reaches_nothing {inside} {level} {s} none = subst (Reaches inside level s s) (sym none) reaches_none

-- who has a level after a step
has_level : (level v new : ℕ) (had i x : Bool) → 0 < level → nat_lt 0 v ≡ had
    → new ≡ level_after level v had i x → nat_lt 0 new ≡ (had || (i && x))
has_level level v new true i x some is now = ap (nat_lt 0) now ∙ is
has_level level v new false true true some is now = lt-ltb 0 new (omega (arith, some, now))
has_level level v new false true false some is now = le-ltb 0 new (omega (arith, now))
has_level level v new false false x some is now = le-ltb 0 new (omega (arith, now))

-- two steps are as one
level_twice : (level a b c : ℕ) (had i x y : Bool) → b ≡ level_after level a had i x
    → c ≡ level_after level b (had || (i && x)) i y → c ≡ level_after level a had i (x || y)
level_twice level a b c true i x y first second = second ∙ first
level_twice level a b c false true true y first second = second ∙ first
level_twice level a b c false true false y first second = second
level_twice level a b c false false x y first second = second

noted_twice : (r had i x y : Bool)
    → noted_after (noted_after r had i x) (had || (i && x)) i y ≡ noted_after r had i (x || y)
noted_twice true had i x y = refl
noted_twice false true i x y = refl
noted_twice false false true true y = refl
noted_twice false false true false y = refl
noted_twice false false false x y = refl

-- what is reached in two steps
pub reaches_on : {inside : Pos → Bool} {level : ℕ} {a b c : SpreadData} {xs ys : List Pos} → 0 < level
    → Reaches inside level a b xs → Reaches inside level b c ys → Reaches inside level a c (xs ++ ys)
reaches_on {inside} {level} {a} {b} {c} {xs} {ys} some first second = record {
  levels = levels_on;
  reached = reached_on;
}
  where
    -- who has a level between the steps
    between : Pos → Bool
    between p = leveled a p || (inside p && has xs p)

    leveled_between : (p : Pos) → leveled b p ≡ between p
    leveled_between p =
        has_level level (level_in a.table p) (level_in b.table p) (leveled a p) (inside p) (has xs p)
        some refl (first.levels p)

    levels_on : (p : Pos)
        → level_in c.table p
        ≡ level_after level (level_in a.table p) (leveled a p) (inside p) (has (xs ++ ys) p)
    levels_on p =
        let u = level_in a.table p in
        let v = level_in b.table p in
        level_twice level u v (level_in c.table p) (leveled a p) (inside p) (has xs p) (has ys p) (first.levels p)
        (second.levels p
        ∙ ap (λ had. level_after level v had (inside p) (has ys p)) (leveled_between p))
        ∙ ap (λ here. level_after level u (leveled a p) (inside p) here) (sym (has_joined xs ys p))

    reached_on : (p : Pos)
        → has c.reached p ≡ noted_after (has a.reached p) (leveled a p) (inside p) (has (xs ++ ys) p)
    reached_on p =
        let was = noted_after (has a.reached p) (leveled a p) (inside p) (has xs p) in
        second.reached p
        ∙ ap (λ r. noted_after r (leveled b p) (inside p) (has ys p)) (first.reached p)
        ∙ ap (λ had. noted_after was had (inside p) (has ys p)) (leveled_between p)
        ∙ noted_twice (has a.reached p) (leveled a p) (inside p) (has xs p) (has ys p)
        ∙ ap (λ here. noted_after (has a.reached p) (leveled a p) (inside p) here) (sym (has_joined xs ys p))

-- a position after one got a level: the same one, or another
level_got : (level v new : ℕ) (had i same : Bool) → nat_lt 0 v ≡ had
    → (same ≡ true → (had ≡ false) × (i ≡ true)) → new ≡ (if same then level else v)
    → new ≡ level_after level v had i (same || false)
level_got level v new true i true is free now = absurd (true≢false (free refl).0)
level_got level v new true i false is free now = now
level_got level v new false true true is free now = now
level_got level v new false false true is free now = absurd (true≢false (sym (free refl).1))
level_got level v new false true false is free now = now ∙ no_level v is
level_got level v new false false false is free now = now ∙ no_level v is

noted_got : (r had i same : Bool) → (same ≡ true → (had ≡ false) × (i ≡ true))
    → (r || (same || false)) ≡ noted_after r had i (same || false)
noted_got r true i true free = absurd (true≢false (free refl).0)
noted_got r false false true free = absurd (true≢false (sym (free refl).1))
noted_got r false true true free = refl
noted_got r true i false free = refl
noted_got r false true false free = refl
noted_got r false false false free = refl

-- a position inside without a level gets one, and is noted
pub reaches_one : {inside : Pos → Bool} {level : ℕ} {old new : SpreadData} {p : Pos}
    → inside p ≡ true → leveled old p ≡ false
    → ((q : Pos) → level_in new.table q ≡ (if same_place q p then level else level_in old.table q))
    → new.reached ≡ old.reached ++ p ∷ [] → Reaches inside level old new (p ∷ [])
reaches_one {inside} {level} {old} {new} {p} there none levels reached = record {
  levels = λ q. level_got level (level_in old.table q) (level_in new.table q) (leveled old q) (inside q)
      (same_place q p) refl (free q) (levels q);
  reached = λ q. ap (λ ps. has ps q) reached ∙ has_joined old.reached (p ∷ []) q
      ∙ noted_got (has old.reached q) (leveled old q) (inside q) (same_place q p) (free q);
}
  where
    free : (q : Pos) → same_place q p ≡ true → (leveled old q ≡ false) × (inside q ≡ true)
    free q same =
        let is = place_is q p same in
        (ap (λ r. leveled old r) is ∙ none, ap inside is ∙ there)

-- a position that is passed over
level_kept : (level v : ℕ) (had i same : Bool) → nat_lt 0 v ≡ had
    → (same ≡ true → (not had && i) ≡ false) → v ≡ level_after level v had i (same || false)
level_kept level v true i same is taken = refl
level_kept level v false true true is taken = absurd (true≢false (taken refl))
level_kept level v false true false is taken = no_level v is
level_kept level v false false same is taken = no_level v is

noted_kept : (r had i same : Bool) → (same ≡ true → (not had && i) ≡ false)
    → r ≡ noted_after r had i (same || false)
noted_kept true had i same taken = refl
noted_kept false true i same taken = refl
noted_kept false false true true taken = absurd (true≢false (taken refl))
noted_kept false false true false taken = refl
noted_kept false false false same taken = refl

-- a position that is not inside, or has a level, is passed over
pub reaches_over : {inside : Pos → Bool} {level : ℕ} {s : SpreadData} {p : Pos}
    → (not (leveled s p) && inside p) ≡ false → Reaches inside level s s (p ∷ [])
reaches_over {inside} {level} {s} {p} taken = record {
  levels = λ q.
      level_kept level (level_in s.table q) (leveled s q) (inside q) (same_place q p) refl (still q);
  reached = λ q. noted_kept (has s.reached q) (leveled s q) (inside q) (same_place q p) (still q);
}
  where
    still : (q : Pos) → same_place q p ≡ true → (not (leveled s q) && inside q) ≡ false
    still q same = ap (λ r. not (leveled s r) && inside r) (place_is q p same) ∙ taken

-- what one item more of a list gives, joined to what those before it give
flat_more : {X : Type 0} (f : X → List Pos) (xs : List X) (i : ℕ) (d : X) → i < length xs
    → flat_map f (take (i + 1) xs) ≡ flat_map f (take i xs) ++ f (get_or xs i d)
flat_more f xs i d within =
    ap (flat_map f) (take_more xs i d within)
    ∙ flat_map-append f (take i xs) (get_or xs i d ∷ [])
    ∙ ap (λ ps. flat_map f (take i xs) ++ ps) (append-nil (f (get_or xs i d)))

-- what one item more of a list reaches
pub reaches_more : {X : Type 0} {inside : Pos → Bool} {level : ℕ} {a b c : SpreadData}
    (f : X → List Pos) (xs : List X) (i : ℕ) (d : X) → i < length xs → 0 < level
    → Reaches inside level a b (flat_map f (take i xs)) → Reaches inside level b c (f (get_or xs i d))
    → Reaches inside level a c (flat_map f (take (i + 1) xs))
reaches_more f xs i d within some first second =
    reaches_as (sym (flat_more f xs i d within)) (reaches_on some first second)

-- a list to which what each item gives is added, one item more and after the last of them
pub list_more : {X : Type 0} (f : X → List Pos) (xs : List X) (i : ℕ) (d : X) (init : List Pos) {done new : List Pos} → i < length xs
    → done ≡ init ++ flat_map f (take i xs) → new ≡ done ++ f (get_or xs i d)
    → new ≡ init ++ flat_map f (take (i + 1) xs)
list_more f xs i d init within so_far added =
    added ∙ ap (λ ps. ps ++ f (get_or xs i d)) so_far
    ∙ append_assoc init (flat_map f (take i xs)) (f (get_or xs i d))
    ∙ ap (λ ps. init ++ ps) (sym (flat_more f xs i d within))

pub list_all : {X : Type 0} (f : X → List Pos) (xs : List X) (i : ℕ) (ps init : List Pos) {done : List Pos} → length xs ≤ i
    → flat_map f xs ≡ ps → done ≡ init ++ flat_map f (take i xs) → done ≡ init ++ ps
list_all f xs i ps init past give so_far = so_far ∙ ap (λ qs. init ++ qs) (ap (flat_map f) (take_all i xs past) ∙ give)

-- what all items of a list reach, after the last of them
pub reaches_all : {X : Type 0} {inside : Pos → Bool} {level : ℕ} {a b : SpreadData}
    (f : X → List Pos) (xs : List X) (i : ℕ) (ps : List Pos) → length xs ≤ i → flat_map f xs ≡ ps
    → Reaches inside level a b (flat_map f (take i xs)) → Reaches inside level a b ps
reaches_all f xs i ps past give reaches =
    reaches_as (ap (flat_map f) (take_all i xs past) ∙ give) reaches

-- dust beside dust on one side
pub first_links : (w : Pos → Cell) (p : Pos) (s : Side)
    → dust_at w p (side_dir s) ≡ (if links_beside w p s then beside p s ∷ [] else [])
unfolding dust_at links_beside
first_links w p s = refl

-- each list of the definitions, as what its items give, joined
abbrev all_links : (Pos → Cell) → Pos → List Pos
all_links w p =
    links_on w p side.East
    ++ (links_on w p side.West ++ (links_on w p side.South ++ links_on w p side.North))

pub all_sides_give : (w : Pos → Cell) (p : Pos) → is_dust (w p) ≡ true
    → flat_map (links_on w p) all_sides ≡ links w p
unfolding links
all_sides_give w p dust =
    ap (λ ps. links_on w p side.East ++ (links_on w p side.West ++ (links_on w p side.South ++ ps)))
    (append-nil (links_on w p side.North))
    ∙ sym (ap (λ b. if b then all_links w p else []) dust)

pub no_links : (w : Pos → Cell) (p : Pos) → is_dust (w p) ≡ false → links w p ≡ []
unfolding links
no_links w p none = ap (λ b. if b then all_links w p else []) none

pub all_dirs_give : (f : Dir → List Pos) → flat_map f all_dirs ≡ each_dir f
all_dirs_give f =
    ap (λ ps. f East ++ (f West ++ (f Up ++ (f Down ++ (f South ++ ps))))) (append-nil (f North))

pub devices_give : (w : Pos → Cell) (ss : List Pos) → flat_map (fed_from w) ss ≡ fed_by w ss
devices_give w [] = refl
devices_give w (s ∷ ss) = ap (λ ps. fed_from w s ++ ps) (devices_give w ss)

pub dust_gives : (w : Pos → Cell) (ps : List Pos) → flat_map (links w) ps ≡ linked_to w ps
dust_gives w [] = refl
dust_gives w (p ∷ ps) = ap (λ qs. links w p ++ qs) (dust_gives w ps)

-- the dust that the devices of one sector more feed
module _ (m : MapData) (w : Pos → Cell) where
  of_sector : ℕ → List Pos
  of_sector k = fed_by w (devices_on m k)

  sectors_more : (k n : ℕ) → fed_by_sectors m w k (suc n) ≡ fed_by_sectors m w k n ++ of_sector (k + n)
  unfolding of_sector
  sectors_more k zero = append-nil (of_sector k) ∙ ap of_sector (omega arith)
  sectors_more k (suc n) =
      let further = fed_by_sectors m w (suc k) n in
      ap (λ ps. of_sector k ++ ps) (sectors_more (suc k) n)
      ∙ sym (append_assoc (of_sector k) further (of_sector (suc k + n)))
      ∙ ap (λ j. (of_sector k ++ further) ++ of_sector j) (omega arith)

  -- and what they reach
  pub sector_reaches : {inside : Pos → Bool} {a b c : SpreadData} (first n : ℕ) → first ≤ n
      → Reaches inside 15 a b (fed_by_sectors m w first (n - first))
      → Reaches inside 15 b c (fed_by w (devices_on m n))
      → Reaches inside 15 a c (fed_by_sectors m w first (n + 1 - first))
  unfolding of_sector
  sector_reaches first n least before here =
      let count : suc (n - first) ≡ n + 1 - first = omega arith in
      let number : n ≡ first + (n - first) = omega arith in
      reaches_as (sym (sectors_more first (n - first)) ∙ ap (fed_by_sectors m w first) count)
      (reaches_on (omega arith) before (reaches_as (ap of_sector number) here))
