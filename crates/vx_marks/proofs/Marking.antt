-- Marks and the words that have any.
use Rattle.std.proofs.Common.{◌≡◌, ℕ, zero, suc, ◌+◌, ◌-◌, ◌*◌, ◌/◌, ◌%◌, ◌^◌, ◌<◌, ◌≤◌, ◌&&◌, if◌then◌else◌, Bool, true, false, List, length, get_or, replicate, Some, None, nat_eq, nat_lt, inl, inr, refl, ap, sym, ◌∙◌, arith}
use Rattle.std.specs.Int.{trailing_zeros, w64}
use Rattle.std.proofs.lemmas.Bool.{cases_lt, and_parts, ltb-true, ltb-false, lt-ltb}
use Rattle.std.proofs.lemmas.List.{length-replicate, get_or_past}
use Rattle.vx_marks.specs.Marks.{is_set, is_marked, IsFirst, IsFirstMarked, AreBits, AreBlank, AreFilled, IsMarkSet}
use Rattle.vx_marks.proofs.WordBits.{unset, lowest_is_first}

-- what a list of one number has at an index
pub zero_at : (n k z : ℕ) → get_or (replicate n z) k z ≡ z
zero_at zero k z = refl
zero_at (suc n) zero z = refl
zero_at (suc n) (suc k) z = zero_at n k z

-- an index of a word that is 0 is not marked
unmarked : (words : List ℕ) (i : ℕ) → get_or words (i / 64) 0 ≡ 0 → is_marked words i ≡ false
unfolding is_marked
unmarked words i empty = ap (λ w. is_set w (i % 64)) empty ∙ unset (i % 64)

-- where all words are 0 nothing is marked
pub none_marked : (n i : ℕ) → is_marked (replicate n 0) i ≡ false
none_marked n i = unmarked (replicate n 0) i (zero_at n (i / 64) 0)

-- and no word has a mark
pub none_filled : (n m : ℕ) → n ≤ 64 * m → AreFilled (replicate n 0) (replicate m 0)
none_filled n m room = record {
  room = omega (arith, length-replicate {A = ℕ} n 0, length-replicate {A = ℕ} m 0);
  each = λ k. none_marked m k ∙ ap (λ w. nat_lt 0 w) (sym (zero_at n k 0));
}

-- to clear a mark where there is none changes nothing
pub none_cleared : (n index : ℕ) → IsMarkSet (replicate n 0) (replicate n 0) index false
none_cleared n index = record {
  long = refl;
  each = λ i. none_marked n i ∙ sym (ap (λ b. if nat_eq i index then false else b) (none_marked n i) ∙ either (nat_eq i index));
}
  where
    either : (b : Bool) → (if b then false else false) ≡ false
    either true = refl
    either false = refl

-- a word that is marked as filled is there, and is not 0
word_filled : (words filled : List ℕ) (k : ℕ) → AreFilled words filled → is_marked filled k ≡ true
    → (k < length words) × (0 < get_or words k 0)
word_filled words filled k held marked =
    let some : 0 < get_or words k 0 = ltb-true 0 _ (sym (held.each k) ∙ marked) in (
      elim (cases_lt k (length words)) [
        | inl near ↦ near
        | inr past ↦ absurd (omega (arith, get_or_past words k 0 past))
      ],
      some,
    )

-- no index is marked whose word is not marked as filled
not_filled : (words filled : List ℕ) (i : ℕ) → AreFilled words filled
    → is_marked filled (i / 64) ≡ false → is_marked words i ≡ false
not_filled words filled i held none =
    let empty = ltb-false 0 _ (sym (held.each (i / 64)) ∙ none) in unmarked words i (omega (arith, empty))

module _ (words filled : List ℕ) (from : ℕ) (held : AreFilled words filled)
    (none : IsFirst (is_marked words) (64 * (from / 64 + 1)) from None) where
  -- nothing is marked from one index on, where nothing is in its word, and no later word is filled
  pub none_later : IsFirstMarked filled (from / 64 + 1) None → IsFirstMarked words from None
  none_later empty i low high = elim (cases_lt i (64 * (from / 64 + 1))) [
    | inl near ↦ none i low near
    | inr far ↦ not_filled words filled i held (empty (i / 64) (omega arith) (omega (arith, held.room)))
  ]

  -- else the first one is the first of the first filled word
  pub first_later : (k index : ℕ) → IsFirstMarked filled (from / 64 + 1) (Some k)
      → IsFirst (is_marked words) (64 * (k + 1)) (64 * k) (Some index) → IsFirstMarked words from (Some index)
  first_later k index word first =
      let there = word_filled words filled k held word.2 in (
        omega (arith, word.0, first.0),
        omega (arith, there.0, first.1),
        first.2,
        λ i low high. elim (cases_lt i (64 * (from / 64 + 1))) [
          | inl near ↦ none i low near
          | inr far ↦ elim (cases_lt i (64 * k)) [
            | inl before ↦ not_filled words filled i held (word.3 (i / 64) (omega arith) (omega arith))
            | inr within ↦ first.3 i within high
          ]
        ],
      )

-- which of so many words from one on are filled, a bit for each
module _ (words filled : List ℕ) (word count bits : ℕ) (held : AreFilled words filled)
    (are : AreBits filled word count bits) where
  -- without a bit none of them has a mark
  pub all_blank : bits ≡ 0 → AreBlank words word count
  all_blank none k low high =
      let n = k - word in
      let at : word + n ≡ k = omega (arith, low) in
      let unset_there : is_marked filled k ≡ false =
      ap (is_marked filled) (sym at)
      ∙ ap (λ b. b && is_marked filled (word + n)) (sym (lt-ltb n count (omega (arith, low, high))))
      ∙ sym (are n) ∙ ap (λ w. is_set w n) none ∙ unset n in
      let empty = ltb-false 0 _ (sym (held.each k) ∙ unset_there) in omega (arith, empty)

  -- with one some word has
  pub not_blank : 0 < bits → bits < 2 ^ 64 → AreBlank words word count → ⊥
  not_blank some fits blank =
      let n = trailing_zeros w64 bits in
      let both = and_parts (nat_lt n count) _ (sym (are n) ∙ (lowest_is_first bits fits some).2) in
      let low = ltb-true n count both.0 in
      let full = ltb-true 0 _ (sym (held.each (word + n)) ∙ both.1) in
      omega (arith, full, blank (word + n) (omega arith) (omega (arith, low)))

-- no index of such a word is marked
pub blank_unmarked : (words : List ℕ) (word count i : ℕ) → AreBlank words word count → word ≤ i / 64 → i / 64 < word + count
    → is_marked words i ≡ false
blank_unmarked words word count i blank low high = unmarked words i (blank (i / 64) low high)
