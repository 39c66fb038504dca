-- What std's `parse` gives is what the word spells.
use Rattle.std.proofs.Common.{◌≡◌, ℕ, zero, suc, ℤ, pos, negsuc, neg_ℤ, unsigned_abs, ◌+◌, ◌-◌, ◌*◌, ◌^◌, ◌<◌, ◌≤◌, ◌≢◌, inl, inr, Bool, true, false, nat_le, IsUtf8, List, [], ◌∷◌, length, get_or, drop, Option, Some, None, option_and_then, refl, ap, ◌∙◌, arith}
use Rattle.std.specs.Int.{w32, FitsUnsignedBits}
use Rattle.std.specs.Prelude.{Result, Ok, Err}
use Rattle.std.specs.Result.{OkIff, result_ok}
use Rattle.std.specs.Char.{digit_value, is_ascii_digit}
use Rattle.std.specs.Str.{all_ascii_digits}
use Rattle.std.specs.Str.Parse.{ParsesSigned, digits_value}
use Rattle.std.proofs.lemmas.Bool.{and_parts, leb-true, eq-eqb, ne_eqb, le-leb, lt-leb, cases_eq, cases_lt}
use Rattle.std.proofs.lemmas.Str.{digit_value_digit, IsUtf8-from_ascii}
use Rattle.std.proofs.lemmas.Str.Parse.{IsNumeralModel, numerals_by_value, tells_all_ascii_digits, parse_signed_plain, parse_signed_minus}
use Rattle.vx_base.specs.Ranges.{within}
use Rattle.vx_grammar.specs.Numbers.{digits_of, number_of, i32_of, natural_within}

numerals : IsNumeralModel (λ ds. all_ascii_digits ds ≡ true) (digits_value 10)
numerals = numerals_by_value (λ ds. all_ascii_digits ds ≡ true) tells_all_ascii_digits

-- a result that is given just where P holds
ok_given : {E P : Type 0} (r : Result ℤ E) (v : ℤ) → OkIff r P v → P → result_ok r ≡ Some v
ok_given (Ok x) v h p = ap Some h.1
ok_given (Err e) v h p = absurd (h p)

ok_refused : {E P : Type 0} (r : Result ℤ E) (v : ℤ) → OkIff r P v → (P → ⊥) → result_ok r ≡ None
ok_refused (Ok x) v h p = absurd (p h.0)
ok_refused (Err e) v h p = refl

-- a text is digits with their value, or it is none
data Digits (text : List ℕ) : Type 0 where
  are : all_ascii_digits text ≡ true → 0 < length text → digits_of text ≡ Some (digits_value 10 text) → Digits text
  are_not : (all_ascii_digits text ≡ true → 0 < length text → ⊥) → digits_of text ≡ None → Digits text

digits_at : (b : Bool) (text : List ℕ) → all_ascii_digits text ≡ b → Digits text
digits_at b [] e = are_not (λ _ l. absurd (omega arith)) refl
digits_at true (c ∷ cs) e = are e (omega arith) (rw (ne_eqb (length (c ∷ cs)) 0 (λ z. omega arith), e) refl)
digits_at false (c ∷ cs) e = are_not (λ t _. cc) (rw (ne_eqb (length (c ∷ cs)) 0 (λ z. omega arith), e) refl)

digits : (text : List ℕ) → Digits text
digits text = digits_at (all_ascii_digits text) text refl

abbrev in_range : ℤ → Option ℤ
in_range = within (neg_ℤ (pos (2 ^ 31))) (pos (2 ^ 31 - 1))

in_range_pos : (n : ℕ) → n < 2 ^ 31 → in_range (pos n) ≡ Some (pos n)
in_range_pos n h = rw (le-leb n (2 ^ 31 - 1) (omega arith)) refl

past_pos : (n : ℕ) → (n < 2 ^ 31 → ⊥) → in_range (pos n) ≡ None
past_pos n h = rw (lt-leb n (2 ^ 31 - 1) (omega arith)) refl

in_range_neg : (n : ℕ) → n ≤ 2 ^ 31 → in_range (neg_ℤ (pos n)) ≡ Some (neg_ℤ (pos n))
in_range_neg zero h = refl
in_range_neg (suc n) h = rw (le-leb n (2 ^ 31 - 1) (omega arith)) refl

past_neg : (n : ℕ) → (n ≤ 2 ^ 31 → ⊥) → in_range (neg_ℤ (pos n)) ≡ None
past_neg zero h = absurd (h (omega arith))
past_neg (suc n) h = rw (lt-leb n (2 ^ 31 - 1) (omega arith)) refl

-- a word that begins with neither sign
plain : {E : Type 0} (word : List ℕ) (r : Result ℤ E) → ParsesSigned w32 10 word r → get_or word 0 0 ≢ 43 → get_or word 0 0 ≢ 45 → result_ok r ≡ i32_of word
unfolding i32_of number_of
plain word r h plus minus =
    let told = parse_signed_plain numerals w32 word r h plus minus in
    rw (ne_eqb (get_or word 0 0) 45 minus) (elim (digits word) [
      | are all long e ↦ rw e (elim (cases_lt (digits_value 10 word) (2 ^ 31)) [
        | inl small ↦ rw (in_range_pos (digits_value 10 word) small) (ok_given r _ told (all, long, small))
        | inr large ↦ rw (past_pos (digits_value 10 word) (λ small. omega arith)) (ok_refused r _ told (λ p. omega arith))
      ])
      | are_not other e ↦ rw e (ok_refused r _ told (λ p. other p.0 p.1))
    ])

-- a word that begins with a minus
negative : {E : Type 0} (word : List ℕ) (r : Result ℤ E) → ParsesSigned w32 10 word r → get_or word 0 0 ≡ 45 → result_ok r ≡ i32_of word
unfolding i32_of number_of
negative word r h minus =
    let told = parse_signed_minus numerals w32 word r h minus in
    rw (eq-eqb (get_or word 0 0) 45 minus) (elim (digits (drop 1 word)) [
      | are all long e ↦ rw e (elim (cases_lt (2 ^ 31) (digits_value 10 (drop 1 word))) [
        | inl large ↦ rw (past_neg (digits_value 10 (drop 1 word)) (λ small. omega arith)) (ok_refused r _ told (λ p. omega arith))
        | inr small ↦ rw (in_range_neg (digits_value 10 (drop 1 word)) small) (ok_given r _ told (all, long, small))
      ])
      | are_not other e ↦ rw e (ok_refused r _ told (λ p. other p.0 p.1))
    ])

-- what `parse` gives a word that begins with no plus
pub parsed : {E : Type 0} (word : List ℕ) (r : Result ℤ E) → ParsesSigned w32 10 word r → get_or word 0 0 ≢ 43 → result_ok r ≡ i32_of word
parsed word r h plus = elim (cases_eq (get_or word 0 0) 45) [ inl minus ↦ negative word r h minus | inr minus ↦ plain word r h plus minus ]

-- a word that begins with a plus is no number
pub plus_none : (word : List ℕ) → get_or word 0 0 ≡ 43 → i32_of word ≡ None
unfolding i32_of number_of
plus_none [] h = absurd (omega arith)
plus_none (c ∷ cs) h = rw (h, ne_eqb (suc (length cs)) 0 (λ z. omega arith)) refl

-- among the numbers of 32 bits are all the small naturals
narrower : (top : ℕ) (z : ℤ) → top < 2 ^ 31 → option_and_then (natural_within top) (in_range z) ≡ natural_within top z
narrower top (negsuc n) h = elim (cases_lt (2 ^ 31 - 1) n) [ inl past ↦ rw (lt-leb n (2 ^ 31 - 1) past) refl | inr fits ↦ rw (le-leb n (2 ^ 31 - 1) fits) refl ]
narrower top (pos n) h = elim (cases_lt (2 ^ 31 - 1) n) [
  | inl past ↦ rw (lt-leb n (2 ^ 31 - 1) past, lt-leb n top (omega arith)) refl
  | inr fits ↦ rw (le-leb n (2 ^ 31 - 1) fits) refl
]

narrower_of : (top : ℕ) (z : Option ℤ) → top < 2 ^ 31 → option_and_then (natural_within top) (option_and_then in_range z) ≡ option_and_then (natural_within top) z
narrower_of top None h = refl
narrower_of top (Some z) h = narrower top z h

pub small_of : (top : ℕ) (word : List ℕ) → top < 2 ^ 31 → option_and_then (natural_within top) (i32_of word) ≡ option_and_then (natural_within top) (number_of word)
unfolding i32_of
small_of top word h = narrower_of top (number_of word) h

-- what `try_from` gives at a type without a sign
pub natural_tried : {E : Type 0} (bits top : ℕ) (z : ℤ) (r : Result ℕ E) → top + 1 ≡ 2 ^ bits → OkIff r (FitsUnsignedBits bits z) (unsigned_abs z) → result_ok r ≡ natural_within top z
natural_tried bits top (pos n) (Ok x) e h = rw (le-leb n top (omega arith)) (ap Some h.1)
natural_tried bits top (pos n) (Err x) e h = elim (cases_lt top n) [ inl past ↦ rw (lt-leb n top past) refl | inr fits ↦ (let small : n < 2 ^ bits = omega arith in absurd (h small)) ]
natural_tried bits top (negsuc n) (Ok x) e h = absurd h.0
natural_tried bits top (negsuc n) (Err x) e h = refl

-- digits with no sign spell their value, where it is small
digits_are : (word : List ℕ) → get_or word 0 0 ≢ 45 → 0 < length word → all_ascii_digits word ≡ true → digits_value 10 word < 2 ^ 31 → i32_of word ≡ Some (pos (digits_value 10 word))
unfolding i32_of number_of
digits_are word minus long all small =
    rw (ne_eqb (get_or word 0 0) 45 minus, ne_eqb (length word) 0 (λ z. omega (arith, z, long)), all) (in_range_pos (digits_value 10 word) small)

-- the byte of a digit, and its value
abbrev IsDigit : ℕ → ℕ → Type 0
IsDigit a x = (x < 10) × (a ≡ x + 48)

valued : (a x : ℕ) → IsDigit a x → digit_value a ≡ x
valued a x h = (let sum = digit_value_digit a (omega (arith, h.0, h.1), omega (arith, h.0, h.1)) in omega (arith, sum, h.1))

is_one : (a x : ℕ) → IsDigit a x → is_ascii_digit a ≡ true
is_one a x h = rw (le-leb 48 a (omega (arith, h.1)), le-leb a 57 (omega (arith, h.0, h.1))) refl

pub one_digit : (a x : ℕ) → IsDigit a x → i32_of (a ∷ []) ≡ Some (pos x)
one_digit a x h =
    let value : digits_value 10 (a ∷ []) ≡ x = omega (arith, valued a x h) in
    digits_are (a ∷ []) (λ e. omega (arith, e, h.1)) (omega arith) (rw (is_one a x h) refl) (omega (arith, value, h.0)) ∙ ap (λ n. Some (pos n)) value

pub two_digits : (a b x y : ℕ) → IsDigit a x → IsDigit b y → i32_of (a ∷ b ∷ []) ≡ Some (pos (x * 10 + y))
two_digits a b x y h k =
    let value : digits_value 10 (a ∷ b ∷ []) ≡ x * 10 + y = omega (arith, valued a x h, valued b y k) in
    digits_are (a ∷ b ∷ []) (λ e. omega (arith, e, h.1)) (omega arith) (rw (is_one a x h, is_one b y k) refl) (omega (arith, value, h.0, k.0)) ∙ ap (λ n. Some (pos n)) value

pub three_digits : (a b c x y z : ℕ) → IsDigit a x → IsDigit b y → IsDigit c z → i32_of (a ∷ b ∷ c ∷ []) ≡ Some (pos (x * 100 + y * 10 + z))
three_digits a b c x y z h k l =
    let value : digits_value 10 (a ∷ b ∷ c ∷ []) ≡ x * 100 + y * 10 + z = omega (arith, valued a x h, valued b y k, valued c z l) in
    digits_are (a ∷ b ∷ c ∷ []) (λ e. omega (arith, e, h.1)) (omega arith) (rw (is_one a x h, is_one b y k, is_one c z l) refl) (omega (arith, value, h.0, k.0, l.0)) ∙ ap (λ n. Some (pos n)) value

digits_small : (ds : List ℕ) → all_ascii_digits ds ≡ true → (i : ℕ) → get_or ds i 0 < 128
digits_small [] all i = omega arith
digits_small (c ∷ cs) all zero =
    let range = and_parts (nat_le 48 c) (nat_le c 57) (and_parts (is_ascii_digit c) (all_ascii_digits cs) all).0 in
    omega (arith, leb-true c 57 range.1)
digits_small (c ∷ cs) all (suc i) = digits_small cs (and_parts (is_ascii_digit c) (all_ascii_digits cs) all).1 i

signed_small : (word : List ℕ) → get_or word 0 0 ≡ 45 → all_ascii_digits (drop 1 word) ≡ true → (i : ℕ) → get_or word i 0 < 128
signed_small [] minus all i = omega arith
signed_small (c ∷ cs) minus all zero = omega (arith, minus)
signed_small (c ∷ cs) minus all (suc i) = digits_small cs all i

-- what is no text is no number
pub no_text : (word : List ℕ) → (IsUtf8 word → ⊥) → i32_of word ≡ None
unfolding i32_of number_of
no_text word none = elim (cases_eq (get_or word 0 0) 45) [
  | inl minus ↦ rw (eq-eqb (get_or word 0 0) 45 minus) (elim (digits (drop 1 word)) [
    | are all long e ↦ absurd (none (IsUtf8-from_ascii word (signed_small word minus all)))
    | are_not other e ↦ rw e refl
  ])
  | inr minus ↦ rw (ne_eqb (get_or word 0 0) 45 minus) (elim (digits word) [
    | are all long e ↦ absurd (none (IsUtf8-from_ascii word (digits_small word all)))
    | are_not other e ↦ rw e refl
  ])
]
