-- Bits by their indices, in words of 64.
use Rattle.std.proofs.Common.{◌≡◌, ◌≢◌, ℕ, zero, suc, ◌+◌, ◌-◌, ◌*◌, ◌/◌, ◌%◌, ◌^◌, ◌<◌, ◌≤◌, min, max, Bool, ◌&&◌, ◌||◌, if◌then◌else◌, List, length, get_or, set, Option, Some, None, option_map, nat_eq, nat_lt, nat_le, inl, inr, true, false, true≢false, refl, ap, sym, ◌∙◌, arith}
use Rattle.std.specs.Int.{bit_at, trailing_zeros, w64}
use Rattle.std.specs.Int.Bits.{bit_and, bit_or}
use Rattle.std.proofs.lemmas.Bool.{cases_eq, cases_lt, eq-eqb, ne_eqb, lt-ltb, le-ltb, le-leb, lt-leb, and_left}
use Rattle.std.proofs.Math.Bool.{and_comm, or-false}
use Rattle.std.proofs.lemmas.List.{length-set, get_or-set_same, get_or-set_other}
use Rattle.std.proofs.lemmas.Nat.{shr-shr, shr_le, pow_pos, and_mask, one_shl}
use Rattle.std.proofs.lemmas.Nat.Bits.{bit_at-zero, bit_at-lt, bit_at_and, bit_at_or, bit_at_ones, bit_at_ones_above, bit_at_cat_low, bit_at_cat_high, bit_at_above, bit_at-trailing_zeros}
use Rattle.vx_marks.specs.Marks.{is_set, is_marked, IsFirst, AreBits, IsRunMarked}

-- no bit of 0 is set
pub unset : (i : ℕ) → is_set 0 i ≡ false
unset i = ap (λ b. nat_eq b 1) (bit_at-zero i)

-- a word from one bit on has its bits from there on
rest_set : (word from k : ℕ) → is_set (word / 2 ^ from) k ≡ is_set word (from + k)
rest_set word from k = ap (λ n. nat_eq (n % 2) 1) (shr-shr word from k)

-- the same for a bit that is told by its own number
from_rest : (word from i : ℕ) → from ≤ i → is_set word i ≡ is_set (word / 2 ^ from) (i - from)
from_rest word from i low =
    let at : i ≡ from + (i - from) = omega arith in ap (is_set word) at ∙ sym (rest_set word from (i - from))

-- no bit from one on is set where that rest of the word is 0
pub none_in_rest : (word from : ℕ) → word / 2 ^ from ≡ 0 → IsFirst (is_set word) 64 from None
none_in_rest word from nothing i low high =
    from_rest word from i low ∙ ap (λ n. is_set n (i - from)) nothing ∙ unset (i - from)

-- the first bit that is set is that of the lowest 1
pub lowest_is_first : (word : ℕ) → word < 2 ^ 64 → 0 < word
    → IsFirst (is_set word) 64 0 (Some (trailing_zeros w64 word))
lowest_is_first word fits some =
    let lowest = bit_at-trailing_zeros w64 word some fits in (
      omega arith,
      lowest.0,
      ap (λ b. nat_eq b 1) lowest.1,
      λ i _ high. ap (λ b. nat_eq b 1) (lowest.2 i high),
    )

-- no bit of a word of 64 bits is set past them
unset_past : (word i : ℕ) → word < 2 ^ 64 → 64 ≤ i → is_set word i ≡ false
unset_past word i fits far = ap (λ b. nat_eq b 1) (bit_at_above word 64 i fits far)

-- the first bit that is set from one on is that of the lowest 1 of that rest of the word
pub first_in_rest : (word from : ℕ) → word < 2 ^ 64 → 0 < word / 2 ^ from
    → IsFirst (is_set word) 64 from (Some (from + trailing_zeros w64 (word / 2 ^ from)))
first_in_rest word from fits some =
    let rest = word / 2 ^ from in
    let bit = trailing_zeros w64 rest in
    let lowest = lowest_is_first rest (omega (arith, shr_le word from)) some in
    let here : is_set word (from + bit) ≡ true = sym (rest_set word from bit) ∙ lowest.2 in (
      omega arith,
      elim (cases_lt (from + bit) 64) [
        | inl near ↦ near
        | inr far ↦ absurd (true≢false (sym here ∙ unset_past word (from + bit) fits far))
      ],
      here,
      λ i low high. from_rest word from i low ∙ lowest.3 (i - from) (omega arith) (omega arith),
    )

one_of : (a b : ℕ) → a < 2 → b < 2 → nat_eq (max a b) 1 ≡ (nat_eq a 1 || nat_eq b 1)
one_of zero zero low_a low_b = refl
one_of zero (suc zero) low_a low_b = refl
one_of (suc zero) zero low_a low_b = refl
one_of (suc zero) (suc zero) low_a low_b = refl
one_of (suc (suc a)) b low_a low_b = absurd (omega arith)
one_of zero (suc (suc b)) low_a low_b = absurd (omega arith)
one_of (suc zero) (suc (suc b)) low_a low_b = absurd (omega arith)

both_of : (a b : ℕ) → a < 2 → b < 2 → nat_eq (min a b) 1 ≡ (nat_eq a 1 && nat_eq b 1)
both_of zero zero low_a low_b = refl
both_of zero (suc zero) low_a low_b = refl
both_of zero (suc (suc b)) low_a low_b = absurd (omega arith)
both_of (suc zero) zero low_a low_b = refl
both_of (suc zero) (suc zero) low_a low_b = refl
both_of (suc zero) (suc (suc b)) low_a low_b = absurd (omega arith)
both_of (suc (suc a)) b low_a low_b = absurd (omega arith)

-- a bit of two words
or_set : (a b i : ℕ) → is_set (bit_or a b) i ≡ (is_set a i || is_set b i)
or_set a b i = ap (λ n. nat_eq n 1) (bit_at_or a b i) ∙ one_of (bit_at a i) (bit_at b i) (bit_at-lt a i) (bit_at-lt b i)

and_set : (a b i : ℕ) → is_set (bit_and a b) i ≡ (is_set a i && is_set b i)
and_set a b i = ap (λ n. nat_eq n 1) (bit_at_and a b i) ∙ both_of (bit_at a i) (bit_at b i) (bit_at-lt a i) (bit_at-lt b i)

-- so many ones from the lowest bit on
ones_set : (count i : ℕ) → is_set (2 ^ count - 1) i ≡ nat_lt i count
ones_set count i = elim (cases_lt i count) [
  | inl low ↦ ap (λ n. nat_eq n 1) (bit_at_ones count i low) ∙ sym (lt-ltb i count low)
  | inr high ↦ ap (λ n. nat_eq n 1) (bit_at_ones_above count i high) ∙ sym (le-ltb i count high)
]

-- the lowest bits of a number
low_set : (count n i : ℕ) → is_set (n % 2 ^ count) i ≡ (nat_lt i count && is_set n i)
low_set count n i =
    ap (λ m. is_set m i) (sym (and_mask n count)) ∙ and_set n (2 ^ count - 1) i
    ∙ ap (λ b. is_set n i && b) (ones_set count i) ∙ and_comm (is_set n i) (nat_lt i count)

-- a number that is shifted up
shifted_set : (n from i : ℕ) → is_set (n * 2 ^ from) i ≡ (nat_le from i && is_set n (i - from))
shifted_set n from i =
    let plain : n * 2 ^ from ≡ n * 2 ^ from + 0 = omega arith in
    ap (λ m. is_set m i) plain ∙ elim (cases_lt i from) [
      | inl under ↦
          ap (λ b. nat_eq b 1) (bit_at_cat_low n from 0 i under) ∙ unset i
          ∙ sym (and_left (nat_le from i) _ (lt-leb from i under))
      | inr over ↦
          ap (λ b. nat_eq b 1) (bit_at_cat_high n from 0 i (pow_pos from) over)
          ∙ sym (ap (λ b. b && is_set n (i - from)) (le-leb from i over))
    ]

-- the bits of a word, and those of a run that begins at one of them
pub run_set : (word from bits i : ℕ) → i < 64
    → is_set (bit_or word (bits * 2 ^ from % 2 ^ 64)) i ≡ (is_set word i || (nat_le from i && is_set bits (i - from)))
run_set word from bits i low =
    or_set word (bits * 2 ^ from % 2 ^ 64) i
    ∙ ap (λ b. is_set word i || b)
    (low_set 64 (bits * 2 ^ from) i
    ∙ (λ j. lt-ltb i 64 low j && shifted_set bits from i j))

-- so many bits of a word from one on
pub run_of : (word from count k : ℕ) → count < 64
    → is_set (bit_and (word / 2 ^ from) (1 * 2 ^ count % 2 ^ 64 - 1)) k ≡ (nat_lt k count && is_set word (from + k))
run_of word from count k few =
    let mask : 1 * 2 ^ count % 2 ^ 64 - 1 ≡ 2 ^ count - 1 = ap (λ n. n - 1) (one_shl count 64 few) in
    ap (λ m. is_set (bit_and (word / 2 ^ from) m) k) mask
    ∙ and_set (word / 2 ^ from) (2 ^ count - 1) k
    ∙ (λ j. rest_set word from k j && ones_set count k j)
    ∙ and_comm (is_set word (from + k)) (nat_lt k count)

-- the mark of an index is the bit in its word
mark_is : (words : List ℕ) (k i : ℕ) → 64 * k ≤ i → i < 64 * (k + 1)
    → is_marked words i ≡ is_set (get_or words k 0) (i - 64 * k)
unfolding is_marked
mark_is words k i low high =
    let word : i / 64 ≡ k = omega arith in
    let bit : i % 64 ≡ i - 64 * k = omega arith in
    λ t. is_set (get_or words (word t) 0) (bit t)

-- the first index of a word is that of its first bit
pub first_in_word : (words : List ℕ) (k from bit : ℕ) (found : Option ℕ) → from ≡ 64 * k + bit
    → IsFirst (is_set (get_or words k 0)) 64 bit found
    → IsFirst (is_marked words) (64 * (k + 1)) from (option_map (λ b. 64 * k + b) found)
first_in_word words k from bit None at first =
    λ i low high. mark_is words k i (omega arith) high ∙ first (i - 64 * k) (omega arith) (omega arith)
first_in_word words k from bit (Some b) at first =
    let back : 64 * k + b - 64 * k ≡ b = omega arith in (
      omega (arith, first.0),
      omega (arith, first.1),
      mark_is words k (64 * k + b) (omega arith) (omega (arith, first.1))
          ∙ ap (is_set (get_or words k 0)) back ∙ first.2,
      λ i low high. mark_is words k i (omega arith) (omega (arith, first.1))
          ∙ first.3 (i - 64 * k) (omega arith) (omega arith),
    )

-- one word changes in one bit, and so does that one mark
module _ (words : List ℕ) (index value : ℕ) (marked : Bool) (near : index < 64 * length words)
    (here : is_set value (index % 64) ≡ marked)
    (others : (i : ℕ) → i < 64 → i ≢ index % 64 → is_set value i ≡ is_set (get_or words (index / 64) 0) i) where
  abbrev new : List ℕ
  new = set words (index / 64) value

  word_here : get_or new (index / 64) 0 ≡ value
  word_here = get_or-set_same words (index / 64) value 0 (omega arith)

  mark_here : is_marked new index ≡ marked
  unfolding is_marked
  mark_here = ap (λ w. is_set w (index % 64)) word_here ∙ here

  mark_apart : (i : ℕ) → i ≢ index → is_marked new i ≡ is_marked words i
  unfolding is_marked
  mark_apart i apart = elim (cases_eq (i / 64) (index / 64)) [
    | inl one_word ↦
        let bit : i % 64 ≢ index % 64 = λ same. apart (omega (arith, one_word, same)) in
        ap (λ k. is_set (get_or new k 0) (i % 64)) one_word
        ∙ ap (λ w. is_set w (i % 64)) word_here
        ∙ others (i % 64) (omega arith) bit
        ∙ ap (λ k. is_set (get_or words k 0) (i % 64)) (sym one_word)
    | inr other ↦
        ap (λ w. is_set w (i % 64)) (get_or-set_other words (index / 64) (i / 64) value 0 other)
  ]

  pub mark_set : (i : ℕ)
      → is_marked (set words (index / 64) value) i ≡ (if nat_eq i index then marked else is_marked words i)
  mark_set i = elim (cases_eq i index) [
    | inl same ↦
        ap (is_marked new) same ∙ mark_here
        ∙ sym (ap (λ b. if b then marked else is_marked words i) (eq-eqb i index same))
    | inr apart ↦
        mark_apart i apart
        ∙ sym (ap (λ b. if b then marked else is_marked words i) (ne_eqb i index apart))
  ]

-- one word has the bits of a run set, and so the run is marked
module _ (words : List ℕ) (first bits value : ℕ) (near : first < 64 * length words)
    (joined : (i : ℕ) → i < 64 → is_set value i
    ≡ (is_set (get_or words (first / 64) 0) i || (nat_le (first % 64) i && is_set bits (i - first % 64)))) where
  -- an index of that word
  run_here : (i : ℕ) → i / 64 ≡ first / 64
      → is_marked (set words (first / 64) value) i ≡ (is_marked words i || (nat_le first i && is_set bits (i - first)))
  unfolding is_marked
  run_here i one_word =
      let bit : i % 64 - first % 64 ≡ i - first = omega (arith, one_word) in
      ap (λ k. is_set (get_or (set words (first / 64) value) k 0) (i % 64)) one_word
      ∙ ap (λ w. is_set w (i % 64)) (get_or-set_same words (first / 64) value 0 (omega arith))
      ∙ joined (i % 64) (omega arith)
      ∙ (λ j. is_set (get_or words (sym one_word j) 0) (i % 64) || (further j && is_set bits (bit j)))
    where
      further : nat_le (first % 64) (i % 64) ≡ nat_le first i
      further = elim (cases_lt i first) [
        | inl under ↦ lt-leb (first % 64) (i % 64) (omega (arith, one_word)) ∙ sym (lt-leb first i under)
        | inr over ↦ le-leb (first % 64) (i % 64) (omega (arith, one_word)) ∙ sym (le-leb first i over)
      ]

  run_apart : (i : ℕ) → i / 64 ≢ first / 64 → is_marked (set words (first / 64) value) i ≡ is_marked words i
  unfolding is_marked
  run_apart i other =
      ap (λ w. is_set w (i % 64)) (get_or-set_other words (first / 64) (i / 64) value 0 other)

  pub run_marked : IsRunMarked words (set words (first / 64) value) first bits
  run_marked = record {
    long = length-set words (first / 64) value;
    each = λ i. elim (cases_eq (i / 64) (first / 64)) [
      | inl same ↦
          run_here i same
          ∙ sym (ap (λ b. is_marked words i || (b && (nat_le first i && is_set bits (i - first)))) (eq-eqb _ _ same))
      | inr other ↦
          run_apart i other
          ∙ sym (ap (λ b. is_marked words i || b) (and_left _ _ (ne_eqb _ _ other)) ∙ or-false (is_marked words i))
    ];
  }

-- which of so many indices of one word are marked
pub run_is : (words : List ℕ) (first count bits : ℕ) → first % 64 + count ≤ 64
    → ((k : ℕ) → is_set bits k ≡ (nat_lt k count && is_set (get_or words (first / 64) 0) (first % 64 + k)))
    → AreBits words first count bits
run_is words first count bits within told k = told k ∙ elim (cases_lt k count) [
  | inl low ↦
      let back : first + k - 64 * (first / 64) ≡ first % 64 + k = omega arith in
      ap (λ b. nat_lt k count && b)
      (ap (is_set (get_or words (first / 64) 0)) (sym back)
      ∙ sym (mark_is words (first / 64) (first + k) (omega arith) (omega arith)))
  | inr high ↦ let past = le-ltb k count high in and_left _ _ past ∙ sym (and_left _ _ past)
]
