-- What passes a test among all, and the least that does.
use Rattle.std.proofs.Common.{◌≡◌, ℕ, ℤ, ◌≤ℤ◌, ◌<ℤ◌, ◌≤◌, Bool, true, false, if◌then◌else◌, List, [], ◌∷◌, Option, None, Some, Contains, ◌⊎◌, inl, inr, refl, ap, sym, ◌∙◌, subst, arith, true≢false}
use Rattle.std.specs.List.{list_all, list_any, slice_index_or}
use Rattle.std.proofs.lemmas.Bool.{false_from_ne_true}
use Rattle.std.proofs.lemmas.Int.{ints, by_lt_z}
use Rattle.std.proofs.lemmas.List.Elements.{All-contains, Contains-get_or, Contains-append_left, Contains-append_right, Contains-append_cases, Contains-push_cases}
use Rattle.std.proofs.lemmas.List.Folds.{Any-from_list_any, list_any-from_Any}
use Rattle.std.proofs.lemmas.List.Sums.{AllPass-from_list_all, list_all-from_AllPass}
use Rattle.std.proofs.Math.Nat.{min-le_left, min-le_right}
use Rattle.vx_region.specs.Regions.{Entry}
use Rattle.vx_decide.specs.Answers.{In, IsLeast}
use Rattle.vx_decide.specs.RegionGroups.{Members, lesser, least}
use Rattle.vx_decide.proofs.Leasts.{least_is}

-- where all pass, each does
pub all_at : {X : Type 0} (p : X → Bool) (xs : List X) (x : X) → list_all p xs ≡ true → Contains xs x → p x ≡ true
all_at p xs x all there = All-contains (λ y. p y ≡ true) xs x (AllPass-from_list_all p xs all) there

-- where each passes, all do
pub all_from : {X : Type 0} (p : X → Bool) (xs : List X) → ((x : X) → Contains xs x → p x ≡ true) → list_all p xs ≡ true
all_from p xs each = list_all-from_AllPass p xs (λ k d below. each (slice_index_or xs k d) (Contains-get_or xs k d below))

-- where one passes, some do
pub any_at : {X : Type 0} (p : X → Bool) (xs : List X) (x : X) → Contains xs x → p x ≡ true → list_any p xs ≡ true
any_at p xs x there passes = list_any-from_Any p xs (there.0, x, there.1, there.2, passes)

-- where some pass, there is one that does
pub any_from : {X : Type 0} (p : X → Bool) (xs : List X) → list_any p xs ≡ true → (x : X) × Contains xs x × (p x ≡ true)
any_from p xs some = let found = Any-from_list_any p xs some in (found.1, (found.0, found.2, found.3), found.4)

-- where none passes, this one does not
pub none_at : {X : Type 0} (p : X → Bool) (xs : List X) (x : X) → list_any p xs ≡ false → Contains xs x → p x ≡ false
none_at p xs x none there = false_from_ne_true (p x) λ passes. true≢false (sym (any_at p xs x there passes) ∙ none)

-- the first of all, and those after it
pub at_head : {X : Type 0} (x : X) (xs : List X) → Contains (x ∷ xs) x
at_head x xs = Contains-append_left (x ∷ []) xs x (0, omega arith, refl)

pub in_tail : {X : Type 0} (x : X) (xs : List X) (y : X) → Contains xs y → Contains (x ∷ xs) y
in_tail x xs y there = Contains-append_right (x ∷ []) xs y there

-- what stands alone is all there is
is_alone : {X : Type 0} (x y : X) → Contains (x ∷ []) y → x ≡ y
is_alone x y there = elim (Contains-push_cases [] x y there) [ inl none ↦ absurd (omega (arith, none.1)) | inr same ↦ same ]

-- what is in a list is its head or in its tail
pub head_or_tail : {X : Type 0} (x : X) (xs : List X) (y : X) → Contains (x ∷ xs) y → (x ≡ y) ⊎ Contains xs y
head_or_tail x xs y there = elim (Contains-append_cases (x ∷ []) xs y there) [
  | inl first ↦ inl (is_alone x y first)
  | inr later ↦ inr later
]

-- nothing is in an empty list
pub in_none : {X : Type 0} (y : X) → Contains [] y → ⊥
in_none y there = omega (arith, there.1)

-- the lesser of two is not above the first
lesser_first : (a : ℕ) (o : Option ℕ) → lesser a o ≤ a
lesser_first a None = omega arith
lesser_first a (Some m) = min-le_left a m

-- the least number of a member is not above that of any
pub below_each : (members : Members) (es : List Entry) (e : Entry) → In members es e → (m : ℕ) × (least members es ≡ Some m) × (m ≤ e.0)
below_each members [] e is = absurd (in_none e is.among)
below_each members (x ∷ es) e is = elim (head_or_tail x es e is.among) [
  | inl first ↦ here first
  | inr later ↦ by (members x) (below_each members es e (record { among = later; passes = is.passes }))
]
  where
    here : x ≡ e → (m : ℕ) × (least members (x ∷ es) ≡ Some m) × (m ≤ e.0)
    here first = (
      lesser x.0 (least members es),
      ap (λ b. if b then Some (lesser x.0 (least members es)) else least members es) (ap members first ∙ is.passes),
      subst (λ (d : Entry). lesser x.0 (least members es) ≤ d.0) first (lesser_first x.0 (least members es)),
    )

    by : (b : Bool) → (m : ℕ) × (least members es ≡ Some m) × (m ≤ e.0)
        → (m : ℕ) × ((if b then Some (lesser x.0 (least members es)) else least members es) ≡ Some m) × (m ≤ e.0)
    by true rest =
        let low = min-le_right x.0 rest.0 in
        (lesser x.0 (Some rest.0), ap (λ o. Some (lesser x.0 o)) rest.1, omega (arith, rest.2))
    by false rest = rest

-- what is found is the least
pub least_found : (members : Members) (es : List Entry) (n : ℕ) → least members es ≡ Some n → IsLeast members es n
least_found members es n found =
    let it = least_is members es n found in
    record {
      region = it.0;
      member = record { among = it.1; passes = it.2 };
      least = λ e is. let low = below_each members es e is in let same : low.0 ≡ n = cc in omega (arith, low.2);
    }

-- where nothing is found there is no member
pub least_none : (members : Members) (es : List Entry) (e : Entry) → least members es ≡ None → In members es e → ⊥
least_none members es e none is = let low = below_each members es e is in cc

-- where there is no member nothing is found
pub no_least : (members : Members) (es : List Entry) → ((e : Entry) → In members es e → ⊥) → least members es ≡ None
no_least members es none = by (least members es) refl
  where
    by : (o : Option ℕ) → least members es ≡ o → o ≡ None
    by None found = refl
    by (Some n) found = let low = least_found members es n found in absurd (none (n, low.region) low.member)

-- there is one least
pub one_least : (members : Members) (es : List Entry) (m n : ℕ) → IsLeast members es m → IsLeast members es n → m ≡ n
one_least members es m n low less =
    let a = low.least (n, less.region) less.member in
    let b = less.least (m, low.region) low.member in
    omega arith

-- and it is found
pub least_at : (members : Members) (es : List Entry) (n : ℕ) → IsLeast members es n → least members es ≡ Some n
least_at members es n low =
    let it = below_each members es (n, low.region) low.member in
    it.1 ∙ ap Some (one_least members es it.0 n (least_found members es it.0 it.1) low)

-- a member that none of the others exceeds
pub record Greatest (measure : Entry → ℤ) (members : Members) (es : List Entry) : Type 0 where
  pub entry : Entry
  pub member : In members es entry
  pub highest : (d : Entry) → In members es d → measure d ≤ℤ measure entry

module _ (measure : Entry → ℤ) (members : Members) (x : Entry) (es : List Entry) where
  -- a member is the head, or one of the tail
  split_member : {P : Type 0} (d : Entry) → In members (x ∷ es) d → (x ≡ d → members x ≡ true → P) → (In members es d → P) → P
  split_member d is first later = elim (head_or_tail x es d is.among) [
    | inl same ↦ first same (ap members same ∙ is.passes)
    | inr there ↦ later (record { among = there; passes = is.passes })
  ]

  -- what holds of the head holds of what is the same
  level : (d : Entry) → x ≡ d → (z : ℤ) → measure x ≤ℤ z → measure d ≤ℤ z
  level d same z low = subst (λ e. measure e ≤ℤ z) same low

  -- the greatest of the tail stays where the head is not above it
  stays_greatest : (top : Greatest measure members es) → (members x ≡ true → measure x ≤ℤ measure top.entry)
      → Greatest measure members (x ∷ es)
  stays_greatest top below = record {
    entry = top.entry;
    member = record { among = in_tail x es top.entry top.member.among; passes = top.member.passes };
    highest = λ d is. split_member d is (λ same passes. level d same (measure top.entry) (below passes)) (λ there. top.highest d there);
  }

  -- the head is greatest where none of the tail is above it
  becomes_greatest : members x ≡ true → ((d : Entry) → In members es d → measure d ≤ℤ measure x) → Greatest measure members (x ∷ es)
  becomes_greatest passes above = record {
    entry = x;
    member = record { among = at_head x es; passes = passes };
    highest = λ d is. split_member d is (λ same so. level d same (measure x) (omega (arith, ints))) (λ there. above d there);
  }

  -- the head and the greatest of the tail: one of them is greatest
  join_greatest : Greatest measure members es → Greatest measure members (x ∷ es)
  join_greatest top =
      by_lt_z (measure top.entry) (measure x) (λ lower. by (members x) refl lower) (λ higher. stays_greatest top (λ passes. higher))
    where
      by : (b : Bool) → members x ≡ b → measure top.entry <ℤ measure x → Greatest measure members (x ∷ es)
      by true passes lower = becomes_greatest passes (λ d there. let low = top.highest d there in omega (arith, ints))
      by false fails lower = stays_greatest top (λ passes. absurd (true≢false (sym passes ∙ fails)))

  -- the head is greatest where the tail has no member
  alone_greatest : (e : Entry) → In members (x ∷ es) e → list_any members es ≡ false → Greatest measure members (x ∷ es)
  alone_greatest e is none =
      split_member e is (λ same passes. becomes_greatest passes (λ d there. absurd (out d there))) (λ there. absurd (out e there))
    where
      out : (d : Entry) → In members es d → ⊥
      out d there = true≢false (sym there.passes ∙ none_at members es d none there.among)

-- where there are members, one of them is greatest
pub greatest : (measure : Entry → ℤ) (members : Members) (es : List Entry) (e : Entry) → In members es e → Greatest measure members es
greatest measure members [] e is = absurd (in_none e is.among)
greatest measure members (x ∷ es) e is = by (list_any members es) refl (greatest measure members es)
  where
    by : (b : Bool) → list_any members es ≡ b → ((d : Entry) → In members es d → Greatest measure members es)
        → Greatest measure members (x ∷ es)
    by true some rest =
        let found = any_from members es some in
        join_greatest measure members x es (rest found.0 (record { among = found.1; passes = found.2 }))
    by false none rest = alone_greatest measure members x es e is none
