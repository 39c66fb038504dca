-- Marks in pages: the mark of an index among all is one of its page, and a page that changes changes
-- the marks of its own indices alone.
use Rattle.std.proofs.Common.{◌≡◌, ◌≢◌, ℕ, zero, suc, ◌+◌, ◌-◌, ◌*◌, ◌/◌, ◌%◌, ◌^◌, ◌<◌, ◌≤◌, Bool, false, ◌&&◌, ◌||◌, if◌then◌else◌, List, [], ◌∷◌, ◌++◌, length, get_or, set, replicate, Option, Some, None, option_map, nat_eq, nat_le, inl, inr, refl, ap, sym, ◌∙◌, arith}
use Rattle.std.specs.List.{flat_map}
use Rattle.std.proofs.Math.Bool.{or-false}
use Rattle.std.proofs.lemmas.Bool.{cases_lt, cases_eq, and_left, eq-eqb, ne_eqb, le-leb, lt-leb}
use Rattle.std.proofs.lemmas.List.{length-append, length-set, length-replicate, get_or_past, get_or-set_same, get_or-set_other, get_or_append_left, get_or-append-add, replicate-append-replicate}
use Rattle.std.proofs.lemmas.List.Elements.{All-set, All-replicate}
use Rattle.vx_marks.specs.Marks.{is_set, is_marked, IsFirst, IsFirstMarked, AreUnmarked, IsMarkSet, in_run, IsRunMarked}
use Rattle.vx_marks.specs.Pages.{joined, AreWhole, ArePages}
use Rattle.vx_marks.specs.declared.page.TheConstants.{PAGE}
use Rattle.vx_marks.proofs.WordBits.{unset}

-- each mark becomes what its index and it tell
record AreChanged (old new : List ℕ) (change : ℕ → Bool → Bool) : Type 0 where
  long : length new ≡ length old
  each : (i : ℕ) → is_marked new i ≡ change i (is_marked old i)

module _ {X : Type 0} (f : X → List ℕ) where
  rest_whole : (page : X) (pages : List X) → AreWhole f (page ∷ pages) → AreWhole f pages
  rest_whole page pages whole i d low = whole (suc i) d (omega arith)

  -- pages without a mark, one after another
  pub blank_joined : (page : X) (n : ℕ) → f page ≡ replicate 64 0 → flat_map f (replicate n page) ≡ replicate (64 * n) 0
  blank_joined page zero blank = refl
  blank_joined page (suc n) blank =
      let more : 64 + 64 * n ≡ 64 * suc n = omega arith in
      ap (λ words. words ++ flat_map f (replicate n page)) blank
      ∙ ap (λ words. replicate 64 0 ++ words) (blank_joined page n blank)
      ∙ replicate-append-replicate 64 (64 * n) 0 ∙ ap (λ k. replicate k 0) more

  joined_length : (pages : List X) → AreWhole f pages → length (flat_map f pages) ≡ 64 * length pages
  joined_length [] whole = refl
  joined_length (page ∷ pages) whole =
      omega (
        arith,
        length-append (f page) (flat_map f pages),
        whole 0 page (omega arith),
        joined_length pages (rest_whole page pages whole),
      )

  -- the word of a page among those of all
  word_at : (pages : List X) (n k : ℕ) (d : X) → AreWhole f pages → n < length pages → k < 64
      → get_or (flat_map f pages) (64 * n + k) 0 ≡ get_or (f (get_or pages n d)) k 0
  word_at [] n k d whole near low = absurd (omega arith)
  word_at (page ∷ pages) zero k d whole near low =
      let at : 64 * 0 + k ≡ k = omega arith in
      ap (λ i. get_or (f page ++ flat_map f pages) i 0) at
      ∙ get_or_append_left (f page) (flat_map f pages) 0 k (omega (arith, whole 0 page (omega arith)))
  word_at (page ∷ pages) (suc n) k d whole near low =
      let at : 64 * suc n + k ≡ length (f page) + (64 * n + k) = omega (arith, whole 0 page (omega arith)) in
      ap (λ i. get_or (f page ++ flat_map f pages) i 0) at
      ∙ get_or-append-add (f page) (flat_map f pages) (64 * n + k) 0
      ∙ word_at pages n k d (rest_whole page pages whole) (omega arith) low

  -- past the last page nothing is marked
  past_pages : (pages : List X) (i : ℕ) → AreWhole f pages → PAGE * length pages ≤ i → is_marked (flat_map f pages) i ≡ false
  unfolding is_marked
  past_pages pages i whole past =
      ap (λ w. is_set w (i % 64)) (get_or_past (flat_map f pages) (i / 64) 0 (omega (arith, joined_length pages whole)))
      ∙ unset (i % 64)

  -- the page that was read at a number
  module _ (pages : List X) (n : ℕ) (page d : X) (whole : AreWhole f pages) (near : n < length pages)
      (read : page ≡ get_or pages n d) where
    in_page : (i : ℕ) → PAGE * n ≤ i → i < PAGE * (n + 1) → is_marked (flat_map f pages) i ≡ is_marked (f page) (i - PAGE * n)
    unfolding is_marked
    in_page i low high =
        let k = i - PAGE * n in
        let word : i / 64 ≡ 64 * n + k / 64 = omega arith in
        let bit : i % 64 ≡ k % 64 = omega arith in
        ap (λ w. is_set (get_or (flat_map f pages) w 0) (i % 64)) word
        ∙ ap (λ w. is_set w (i % 64)) (word_at pages n (k / 64) d whole near (omega arith))
        ∙ ap (λ p. is_set (get_or (f p) (k / 64) 0) (i % 64)) (sym read)
        ∙ ap (is_set (get_or (f page) (k / 64) 0)) bit

    -- what is found first in the page, up to an end within it
    found_in_page : (from to start end : ℕ) (found : Option ℕ) → start ≡ PAGE * n + from → end ≡ PAGE * n + to → to ≤ PAGE
        → IsFirst (is_marked (f page)) to from found
        → IsFirst (is_marked (flat_map f pages)) end start (option_map (λ k. PAGE * n + k) found)
    found_in_page from to start end None at until within none =
        λ i low high. in_page i (omega arith) (omega arith) ∙ none (i - PAGE * n) (omega arith) (omega arith)
    found_in_page from to start end (Some k) at until within first =
        let back : PAGE * n + k - PAGE * n ≡ k = omega arith in (
          omega (arith, first.0),
          omega (arith, first.1),
          in_page (PAGE * n + k) (omega arith) (omega (arith, first.1)) ∙ ap (is_marked (f page)) back ∙ first.2,
          λ i low high. in_page i (omega arith) (omega (arith, first.1))
              ∙ first.3 (i - PAGE * n) (omega arith) (omega arith),
        )

  -- marks of a page change, and so do these among all
  module _ (pages : List X) (n : ℕ) (page new : X) (part all : ℕ → Bool → Bool) (whole : AreWhole f pages)
      (near : n < length pages) (read : page ≡ get_or pages n page) (changed : AreChanged (f page) (f new) part)
      (same : (i : ℕ) (b : Bool) → i / PAGE ≡ n → part (i % PAGE) b ≡ all i b)
      (apart : (i : ℕ) (b : Bool) → i / PAGE ≢ n → all i b ≡ b) where
    set_whole : AreWhole f (set pages n new)
    set_whole =
        All-set (λ p. length (f p) ≡ 64) pages n new
        (changed.long ∙ ap (λ p. length (f p)) read ∙ whole n page near) whole

    set_near : n < length (set pages n new)
    set_near = omega (arith, length-set pages n new)

    of_page : (i : ℕ) → i / PAGE ≡ n
        → is_marked (flat_map f (set pages n new)) i ≡ all i (is_marked (flat_map f pages) i)
    of_page i is =
        let back : i - PAGE * n ≡ i % PAGE = omega (arith, is) in
        in_page (set pages n new) n new page set_whole set_near (sym (get_or-set_same pages n new page near)) i
        (omega (arith, is)) (omega (arith, is))
        ∙ ap (is_marked (f new)) back ∙ changed.each (i % PAGE) ∙ same i _ is
        ∙ ap (all i) (ap (is_marked (f page)) (sym back)
        ∙ sym (in_page pages n page page whole near read i (omega (arith, is)) (omega (arith, is))))

    of_other : (i : ℕ) → i / PAGE ≢ n → is_marked (flat_map f (set pages n new)) i ≡ is_marked (flat_map f pages) i
    of_other i other = elim (cases_lt i (PAGE * length pages)) [
      | inl low ↦
          let m = i / PAGE in
          in_page (set pages n new) m (get_or pages m page) page set_whole (omega (arith, length-set pages n new))
          (sym (get_or-set_other pages n m new page other)) i (omega arith) (omega arith)
          ∙ sym (in_page pages m (get_or pages m page) page whole (omega arith) refl i (omega arith) (omega arith))
      | inr past ↦
          past_pages (set pages n new) i set_whole (omega (arith, length-set pages n new))
          ∙ sym (past_pages pages i whole past)
    ]

    page_changed : AreChanged (flat_map f pages) (flat_map f (set pages n new)) all
    page_changed = record {
      long = omega (arith, joined_length pages whole, joined_length (set pages n new) set_whole, length-set pages n new);
      each = λ i. elim (cases_eq (i / PAGE) n) [
        | inl is ↦ of_page i is
        | inr other ↦ of_other i other ∙ sym (apart i _ other)
      ];
    }

-- pages that are there
module _ {X : Type 0} (f : X → List ℕ) (pages : List X) (are : ArePages f pages) where
  pub pages_length : 64 * length (joined f pages) ≡ PAGE * length pages
  pages_length = omega (arith, joined_length f pages are.each)

  -- past the last one nothing is marked
  pub none_past : (i : ℕ) → PAGE * length pages ≤ i → is_marked (joined f pages) i ≡ false
  none_past i past = past_pages f pages i are.each past

  -- what is found in a page that was read
  module _ (n : ℕ) (page : X) (near : n < length pages) (read : page ≡ get_or pages n page) where
    -- at an index of it
    pub mark_of_page : (i : ℕ) → n ≡ i / PAGE → is_marked (joined f pages) i ≡ is_marked (f page) (i % PAGE)
    mark_of_page i is =
        let back : i - PAGE * n ≡ i % PAGE = omega arith in
        in_page f pages n page page are.each near read i (omega arith) (omega arith) ∙ ap (is_marked (f page)) back

    found_there : (from to start end : ℕ) (found : Option ℕ) → start ≡ PAGE * n + from → end ≡ PAGE * n + to → to ≤ PAGE
        → IsFirst (is_marked (f page)) to from found
        → IsFirst (is_marked (joined f pages)) end start (option_map (λ k. PAGE * n + k) found)
    found_there = found_in_page f pages n page page are.each near read

    long : length (f page) ≡ 64
    long = ap (λ p. length (f p)) read ∙ are.each n page near

    in_whole_page : (from : ℕ) (found : Option ℕ) → IsFirstMarked (f page) from found
        → IsFirst (is_marked (f page)) PAGE from found
    in_whole_page from None none = λ i low high. none i low (omega (arith, long))
    in_whole_page from (Some k) first = (first.0, omega (arith, long, first.1), first.2, first.3)

    -- where nothing was marked before it, and nothing is in the page, nothing is before the next page
    pub none_to_next : (from next : ℕ) → n ≡ next / PAGE → AreUnmarked (joined f pages) from next
        → IsFirstMarked (f page) (next % PAGE) None
        → AreUnmarked (joined f pages) from (PAGE * (n + 1))
    none_to_next from next is so_far none i low high = elim (cases_lt i next) [
      | inl before ↦ so_far i low before
      | inr on ↦
          found_there (next % PAGE) PAGE next (PAGE * (n + 1)) None (omega arith) (omega arith) (omega arith)
          (in_whole_page (next % PAGE) None none) i on high
    ]

    -- else what is first in the page is first of all
    pub first_of_all : (from next k : ℕ) → n ≡ next / PAGE → from ≤ next → AreUnmarked (joined f pages) from next
        → IsFirstMarked (f page) (next % PAGE) (Some k)
        → IsFirstMarked (joined f pages) from (Some (PAGE * n + k))
    first_of_all from next k is start so_far found =
        let first =
        found_there (next % PAGE) PAGE next (PAGE * (n + 1)) (Some k) (omega arith) (omega arith) (omega arith)
        (in_whole_page (next % PAGE) (Some k) found) in (
          omega (arith, first.0),
          omega (arith, first.1, pages_length),
          first.2,
          λ i low high. elim (cases_lt i next) [
            | inl before ↦ so_far i low before
            | inr on ↦ first.3 i on high
          ],
        )

    -- one mark of the page changes, and so does that one among all
    module _ (new : X) (index : ℕ) (marked : Bool) (is : n ≡ index / PAGE)
        (changed : IsMarkSet (f page) (f new) (index % PAGE) marked) where
      abbrev one_of : ℕ → ℕ → Bool → Bool
      one_of at i b = if nat_eq i at then marked else b

      same_index : (i : ℕ) (b : Bool) → i / PAGE ≡ n → one_of (index % PAGE) (i % PAGE) b ≡ one_of index i b
      same_index i b here = ap (λ t. if t then marked else b) (elim (cases_eq i index) [
        | inl one ↦ eq-eqb (i % PAGE) (index % PAGE) (ap (λ k. k % PAGE) one) ∙ sym (eq-eqb i index one)
        | inr two ↦ ne_eqb (i % PAGE) (index % PAGE) (λ one. two (omega (arith, one, here, is))) ∙ sym (ne_eqb i index two)
      ])

      other_index : (i : ℕ) (b : Bool) → i / PAGE ≢ n → one_of index i b ≡ b
      other_index i b other =
          ap (λ t. if t then marked else b) (ne_eqb i index (λ one. other (ap (λ j. j / PAGE) one ∙ sym is)))

      pub mark_set : IsMarkSet (joined f pages) (joined f (set pages n new)) index marked
      mark_set =
          let all = page_changed f pages n page new (one_of (index % PAGE)) (one_of index) are.each near read
          (record { long = changed.long; each = changed.each }) same_index other_index in
          record { long = all.long; each = all.each }

      pub still_pages : ArePages f (set pages n new)
      still_pages = record {
        few = omega (arith, are.few, length-set pages n new);
        each = All-set (λ p. length (f p) ≡ 64) pages n new (changed.long ∙ long) are.each;
      }

    -- a run of the page is marked, and so is that one among all
    module _ (new : X) (first bits : ℕ) (is : n ≡ first / PAGE)
        (changed : IsRunMarked (f page) (f new) (first % PAGE) bits) where
      abbrev with_run : ℕ → ℕ → Bool → Bool
      with_run at i b = b || in_run at bits i

      same_run : (i : ℕ) (b : Bool) → i / PAGE ≡ n → with_run (first % PAGE) (i % PAGE) b ≡ with_run first i b
      same_run i b here =
          let further : i % PAGE - first % PAGE ≡ i - first = omega (arith, here, is) in
          λ j. b || (word j && (behind j && is_set bits (further j)))
        where
          word : nat_eq (i % PAGE / 64) (first % PAGE / 64) ≡ nat_eq (i / 64) (first / 64)
          word = elim (cases_eq (i / 64) (first / 64)) [
            | inl one ↦ eq-eqb (i % PAGE / 64) (first % PAGE / 64) (omega (arith, one, here, is)) ∙ sym (eq-eqb _ _ one)
            | inr two ↦
                ne_eqb (i % PAGE / 64) (first % PAGE / 64) (λ one. two (omega (arith, one, here, is))) ∙ sym (ne_eqb _ _ two)
          ]

          behind : nat_le (first % PAGE) (i % PAGE) ≡ nat_le first i
          behind = elim (cases_lt i first) [
            | inl under ↦ lt-leb (first % PAGE) (i % PAGE) (omega (arith, under, here, is)) ∙ sym (lt-leb first i under)
            | inr over ↦ le-leb (first % PAGE) (i % PAGE) (omega (arith, over, here, is)) ∙ sym (le-leb first i over)
          ]

      other_run : (i : ℕ) (b : Bool) → i / PAGE ≢ n → with_run first i b ≡ b
      other_run i b other =
          ap (λ t. b || t) (and_left _ _ (ne_eqb (i / 64) (first / 64) (λ one. other (omega (arith, one, is))))) ∙ or-false b

      pub run_marked : IsRunMarked (joined f pages) (joined f (set pages n new)) first bits
      run_marked =
          let all = page_changed f pages n page new (with_run (first % PAGE)) (with_run first) are.each near read
          (record { long = changed.long; each = changed.each }) same_run other_run in
          record { long = all.long; each = all.each }

-- so many pages of one kind
pub same_pages : {X : Type 0} (f : X → List ℕ) (page : X) (n : ℕ) → length (f page) ≡ 64 → PAGE * n < 2 ^ 32 → ArePages f (replicate n page)
same_pages f page n long fits = record {
  few = omega (arith, length-replicate n page);
  each = All-replicate (λ p. length (f p) ≡ 64) n page long;
}
