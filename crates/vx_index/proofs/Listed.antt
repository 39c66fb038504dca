-- The numbers of the regions of a tile, as its patches are gone through.
use Rattle.std.proofs.Common.{◌≡◌, ◌⊎◌, inl, inr, ℕ, pos, ◌+◌, ◌<◌, ◌≤◌, Bool, true, false, ◌&&◌, nat_eq, length, get_or, take, drop, List, [], ◌∷◌, ◌++◌, Contains, Option, Some, None, IsSome, option_map, refl, ap, sym, ◌∙◌, subst, arith, add-one, drop-cons}
use Rattle.std.specs.List.{AllByRecursion, All, AllPairs}
use Rattle.std.proofs.lemmas.Bool.{and_from, and_parts, both_ways, eq-eqb, eqb-true, or_cases, or_left, or_right}
use Rattle.std.proofs.lemmas.List.{take_more, take_all}
use Rattle.std.proofs.lemmas.List.Elements.{All-nil, All-push, All-weaker, Contains-append_left, Contains-push, Contains-push_cases}
use Rattle.std.proofs.lemmas.List.Folds.{list_any-append}
use Rattle.std.proofs.lemmas.List.Quantifiers.{all_pairs_push}
use Rattle.vx_decide.specs.Candidates.{AreNumbers, HoldCandidates}
use Rattle.vx_decide.specs.Hosts.{NameHosts}
use Rattle.vx_decide.proofs.ByNumber.{above_zero}
use Rattle.vx_geom.specs.declared.extent.Extent.{Extent}
use Rattle.vx_geom.specs.declared.pos.Pos.{Pos}
use Rattle.vx_geom.specs.Extent.{is_within}
use Rattle.vx_index.specs.declared.tile.Tile.{Tile}
use Rattle.vx_index.specs.declared.patch.Patch.{Patch}
use Rattle.vx_index.specs.Tiles.{IsTile, StandsIn}
use Rattle.vx_index.specs.Patches.{has_such, has_number, AreInOrder, AreNumbersOf, IsMet}
use Rattle.vx_index.specs.Shapes.{shape_at}
use Rattle.vx_index.proofs.Orders.{order_lower}
use Rattle.vx_region.specs.Forest.{IsForest}
use Rattle.vx_region.specs.Regions.{RegionData, Regions, region_at}
use Rattle.vx_region.specs.Subjects.{Actor}

module _ (test : Patch → Bool) where
  -- the patch passes the test and is of that number
  abbrev is_such : ℕ → Patch → Bool
  is_such n d = test d && nat_eq n d.number

  -- with one patch more there are the numbers before and its own
  has_more : (done : List Patch) (d : Patch) (n : ℕ) → has_such test done n ≡ true → has_such test (done ++ d ∷ []) n ≡ true
  has_more done d n has = list_any-append (is_such n) done (d ∷ []) ∙ or_left (has_such test done n) (has_such test (d ∷ []) n) has

  has_own : (done : List Patch) (d : Patch) → test d ≡ true → has_such test (done ++ d ∷ []) d.number ≡ true
  has_own done d passes =
      list_any-append (is_such d.number) done (d ∷ [])
      ∙ or_right (has_such test done d.number) (has_such test (d ∷ []) d.number)
      (or_left (is_such d.number d) false (and_from (test d) (nat_eq d.number d.number) passes (eq-eqb d.number d.number refl)))

  has_parts : (done : List Patch) (d : Patch) (n : ℕ) → has_such test (done ++ d ∷ []) n ≡ true
      → (has_such test done n ≡ true) ⊎ ((test d ≡ true) × (n ≡ d.number))
  has_parts done d n has =
      elim (or_cases (has_such test done n) (has_such test (d ∷ []) n) (sym (list_any-append (is_such n) done (d ∷ [])) ∙ has)) [
        | inl before ↦ inl before
        | inr last ↦ elim (or_cases (is_such n d) false last) [
          | inl own ↦ let both = and_parts (test d) (nat_eq n d.number) own in inr (both.0, eqb-true n d.number both.1)
          | inr none ↦ absurd (both_ways false refl none)
        ]
      ]

-- what is listed of the patches that are done when others are left: numbers that ascend to the last one, those from 1 on of the patches that pass the
-- test, and none but those of these patches
pub record Listed (test : Patch → Bool) (done rest : List Patch) (numbers : List ℕ) (last : ℕ) : Type 0 where
  pub rising : AllPairs (λ m n. m < n) numbers
  pub below : All (λ n. n ≤ last) numbers
  pub there : 0 < last → Contains numbers last
  pub ordered : AreInOrder last rest
  pub whole : (n : ℕ) → 0 < n → has_such test done n ≡ true → Contains numbers n
  pub own : (n : ℕ) → Contains numbers n → has_number done n ≡ true

-- nothing is listed yet
pub none_listed : (test : Patch → Bool) (all : List Patch) (numbers : List ℕ) → numbers ≡ [] → AreInOrder 0 all → Listed test [] all numbers 0
none_listed test all numbers none ordered = subst (λ ns. Listed test [] all ns 0) (sym none) (record {
  rising = λ i j d first below. absurd (omega (arith, below));
  below = All-nil (λ n. n ≤ 0);
  there = λ some. absurd (omega (arith, some));
  ordered = ordered;
  whole = λ n above has. absurd (both_ways false refl has);
  own = λ n there. absurd (omega (arith, there.1));
})

-- a patch of a region that is not there yet
pub lists : (test : Patch → Bool) (done : List Patch) (d : Patch) (rest : List Patch) (numbers new : List ℕ) (last : ℕ) → new ≡ numbers ++ d.number ∷ []
    → last < d.number → Listed test done (d ∷ rest) numbers last → Listed test (done ++ d ∷ []) rest new d.number
lists test done d rest numbers new last pushed above held = subst (λ ns. Listed test (done ++ d ∷ []) rest ns d.number) (sym pushed) (record {
  rising = all_pairs_push (λ m n. m < n) numbers d.number held.rising
      (All-weaker (λ n. n ≤ last) (λ n. n < d.number) (λ n low. omega (arith, low, above)) numbers held.below);
  below = All-push (λ n. n ≤ d.number) numbers d.number
      (All-weaker (λ n. n ≤ last) (λ n. n ≤ d.number) (λ n low. omega (arith, low, above)) numbers held.below) (omega arith);
  there = λ some. Contains-push numbers d.number;
  ordered = held.ordered.1;
  whole = λ n from has. elim (has_parts test done d n has) [
    | inl before ↦ Contains-append_left numbers (d.number ∷ []) n (held.whole n from before)
    | inr both ↦ subst (Contains (numbers ++ d.number ∷ [])) (sym both.1) (Contains-push numbers d.number)
  ];
  own = λ n there. elim (Contains-push_cases numbers d.number n there) [
    | inl before ↦ has_more (λ x. true) done d n (held.own n before)
    | inr same ↦ subst (λ m. has_number (done ++ d ∷ []) m ≡ true) same (has_own (λ x. true) done d refl)
  ];
})

-- and one that does not pass, or is of a region that is there
pub passes : (test : Patch → Bool) (done : List Patch) (d : Patch) (rest : List Patch) (numbers : List ℕ) (last : ℕ) → (test d ≡ true → d.number ≤ last)
    → Listed test done (d ∷ rest) numbers last → Listed test (done ++ d ∷ []) rest numbers last
passes test done d rest numbers last known held = record {
  rising = held.rising;
  below = held.below;
  there = held.there;
  ordered = order_lower last d.number rest held.ordered.0 held.ordered.1;
  whole = λ n from has. elim (has_parts test done d n has) [
    | inl earlier ↦ held.whole n from earlier
    | inr both ↦
        let same : last ≡ n = omega (arith, both.1, known both.0, held.ordered.0) in
        subst (Contains numbers) same (held.there (omega (arith, from, same)))
  ];
  own = λ n there. has_more (λ x. true) done d n (held.own n there);
}

-- what is read past the end of the patches
abbrev pub no_patch : Patch
no_patch = record {
  number = 0;
  columns = record { west = pos 0; east = pos 0; north = pos 0; south = pos 0 };
}

-- the patch at an index is the first of those that are left, and then the last of those that are done
pub turn : (test : Patch → Bool) (all items : List Patch) (k : ℕ) (numbers new : List ℕ) (last next : ℕ) → items ≡ all → k < length items
    → (Listed test (take k all) (get_or items k no_patch ∷ drop (k + 1) all) numbers last
    → Listed test (take k all ++ get_or items k no_patch ∷ []) (drop (k + 1) all) new next)
    → Listed test (take k all) (drop k all) numbers last → Listed test (take (k + 1) all) (drop (k + 1) all) new next
turn test all items k numbers new last next same below goes held =
    subst (λ done. Listed test done (drop (k + 1) all) new next) (sym more)
    (goes (subst (λ rest. Listed test (take k all) rest numbers last) parts held))
  where
    here : drop k items ≡ get_or items k no_patch ∷ drop (k + 1) items
    here = rw add-one (drop-cons items k no_patch below)

    parts : drop k all ≡ get_or items k no_patch ∷ drop (k + 1) all
    parts = subst (λ ds. drop k ds ≡ get_or items k no_patch ∷ drop (k + 1) ds) same here

    more : take (k + 1) all ≡ take k all ++ get_or items k no_patch ∷ []
    more = subst (λ ds. take (k + 1) ds ≡ take k ds ++ get_or items k no_patch ∷ []) same (take_more items k no_patch below)

-- where all patches are done these are the numbers of all
pub all_listed : (test : Patch → Bool) (all items : List Patch) (k : ℕ) (numbers : List ℕ) (last : ℕ) → items ≡ all → length items ≤ k
    → Listed test (take k all) (drop k all) numbers last → AreNumbersOf test all numbers
all_listed test all items k numbers last same past held =
    let whole : take k all ≡ all = take_all k all (omega (arith, past, ap length same)) in
    record {
      ascending = λ i below. held.rising i (i + 1) 0 (omega arith) below;
      whole = λ n from has. held.whole n from (subst (λ ds. has_such test ds n ≡ true) (sym whole) has);
      own = λ n there. subst (λ ds. has_number ds n ≡ true) whole (held.own n there);
    }

-- what holds of the numbers of all patches holds of one that a patch has
pub of_number : (P : ℕ → Type 0) (n : ℕ) (patches : List Patch) → AllByRecursion (λ d. P d.number) patches → has_number patches n ≡ true → P n
of_number P n [] all has = absurd (both_ways false refl has)
of_number P n (d ∷ ds) all has = elim (or_cases (nat_eq n d.number) (has_number ds n) has) [
  | inl this ↦ subst P (sym (eqb-true n d.number this)) all.0
  | inr later ↦ of_number P n ds all.1 later
]

-- a number at which a shape lies there is that of a region
region_met : (o : Option RegionData) (columns : Extent) → IsMet (option_map (λ r. r.shape) o) columns → IsSome o
region_met None columns met = let none : None ≡ Some met.0 = met.1 in cc
region_met (Some r) columns met = refl

-- what passes a test passes a weaker one
such_weaker : (f g : Patch → Bool) → ((d : Patch) → f d ≡ true → g d ≡ true) → (n : ℕ) (patches : List Patch) → has_such f patches n ≡ true
    → has_such g patches n ≡ true
such_weaker f g tells n [] has = has
such_weaker f g tells n (d ∷ ds) has = elim (or_cases (is_such f n d) (has_such f ds n) has) [
  | inl this ↦
      let both = and_parts (f d) (nat_eq n d.number) this in
      or_left (is_such g n d) (has_such g ds n) (and_from (g d) (nat_eq n d.number) (tells d both.0) both.1)
  | inr later ↦ or_right (is_such g n d) (has_such g ds n) (such_weaker f g tells n ds later)
]

-- so the numbers of the patches of a tile are those of regions
numbers_named : (rs : Regions) (tile : Tile) (test : Patch → Bool) (numbers : List ℕ) → IsTile rs tile
    → AreNumbersOf test tile.patches.items numbers → AreNumbers rs numbers
numbers_named rs tile test numbers is of n there =
    region_met (region_at rs n) tile.columns (of_number (λ m. IsMet (shape_at rs m) tile.columns) n tile.patches.items is.patches.met (of.own n there))

-- and those of the patches that have the position are those of all regions that contain it
pub numbers_hold : (rs : Regions) (p : Pos) (tile : Tile) (test : Patch → Bool) (numbers : List ℕ) → IsForest rs → IsTile rs tile
    → is_within tile.columns p ≡ true → ((d : Patch) → is_within d.columns p ≡ true → test d ≡ true)
    → AreNumbersOf test tile.patches.items numbers → HoldCandidates rs p numbers
numbers_hold rs p tile test numbers forest is within tells of = record {
  ascending = of.ascending;
  named = numbers_named rs tile test numbers is of;
  whole = λ n r there inside.
      of.whole n (above_zero rs n r forest.numbered there)
      (such_weaker (λ d. is_within d.columns p) test tells n tile.patches.items
      (is.patches.told n r.shape p (ap (option_map (λ (d : RegionData). d.shape)) there) within inside));
}

-- so all numbers of a tile name the regions in which a machine there stands
pub numbers_name_hosts : (rs : Regions) (actor : Actor) (tile : Tile) → IsForest rs → IsTile rs tile → StandsIn tile.columns actor
    → NameHosts rs actor tile.numbers.items
numbers_name_hosts rs actor tile forest is stands = record {
  named = numbers_named rs tile (λ d. true) tile.numbers.items is is.numbers;
  whole = λ q machine.
      numbers_hold rs q tile (λ d. true) tile.numbers.items forest is (stands q machine) (λ d within. refl) is.numbers;
}
