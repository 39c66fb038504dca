-- Plain texts joined, and that JSON writes them as they are.
use Rattle.std.proofs.Common.{◌≡◌, ℕ, zero, suc, ◌+◌, ◌/◌, ◌%◌, ◌<◌, ◌≤◌, ◌≢◌, ℤ, pos, negsuc, Bool, true, false, ◌||◌, not, cond, nat_eq, nat_le, List, [], ◌∷◌, ◌++◌, refl, arith}
use Rattle.std.specs.Fmt.{digits, digits_onto, digit_glyph, decimal, signed_decimal}
use Rattle.std.specs.List.{list_all}
use Rattle.std.proofs.lemmas.Bool.{and_parts, leb-true, le-leb, le-ltb, lt-ltb, ne_eqb}
use Rattle.std.proofs.lemmas.List.Folds.{list_all-append}
use Rattle.json.specs.Print.{escape, escape_byte}
use Rattle.vx_name.specs.Words.{is_amid}
use Rattle.vx_json.specs.Plain.{is_plain, IsPlain}

-- a text that is plain byte by byte
pub plain : (text : List ℕ) → list_all is_plain text ≡ true → IsPlain text
plain text each = record { each = each }

-- one plain text behind another
pub both : {front back : List ℕ} → IsPlain front → IsPlain back → IsPlain (front ++ back)
both {front} {back} first second =
    record { each = rw (list_all-append is_plain front back, first.each) second.each }

-- a byte that is printable and none of the two that are escaped
pub plain_byte : (b : ℕ) → 32 ≤ b → b ≤ 126 → b ≢ 34 → b ≢ 92 → is_plain b ≡ true
plain_byte b low high quote back = rw (le-leb 32 b low, le-leb b 126 high, ne_eqb b 34 quote, ne_eqb b 92 back) refl

-- a digit
digit : (d : ℕ) → d < 10 → is_plain (digit_glyph false d) ≡ true
digit d small = rw (lt-ltb d 10 small) (plain_byte (48 + d) (omega arith) (omega arith) (λ e. omega arith) (λ e. omega arith))

-- a digit before plain text
digit_on : (n : ℕ) (rest : List ℕ) → list_all is_plain rest ≡ true → list_all is_plain (digit_glyph false (n % 10) ∷ rest) ≡ true
digit_on n rest h = rw (digit (n % 10) (omega arith)) h

digits_on : (k n : ℕ) (rest : List ℕ) → list_all is_plain rest ≡ true → list_all is_plain (digits_onto k 10 false n rest) ≡ true
digits_on zero n rest h = h
digits_on (suc k) n rest h = by (nat_eq (n / 10) 0) (digits_on k (n / 10) (digit_glyph false (n % 10) ∷ rest) (digit_on n rest h))
  where
    by : (last : Bool) → list_all is_plain (digits_onto k 10 false (n / 10) (digit_glyph false (n % 10) ∷ rest)) ≡ true
        → list_all is_plain (cond last (digit_glyph false (n % 10) ∷ rest) (digits_onto k 10 false (n / 10) (digit_glyph false (n % 10) ∷ rest))) ≡ true
    by true more = digit_on n rest h
    by false more = more

-- a number in digits
pub number : (n : ℕ) → IsPlain (decimal n)
unfolding digits
number n = plain (decimal n) (digits_on 64 n [] refl)

pub signed_number : (z : ℤ) → IsPlain (signed_decimal z)
signed_number (pos n) = number n
signed_number (negsuc n) = both (plain (45 ∷ []) refl) (number (suc n))

-- JSON writes a plain byte as it is
shown : (b : ℕ) → is_plain b ≡ true → escape_byte b ≡ b ∷ []
unfolding escape_byte
shown b is =
    let parts = and_parts (is_amid 32 b 126) (not (nat_eq b 34 || nat_eq b 92)) is in
    by (nat_eq b 34) (nat_eq b 92) refl refl parts.1 (leb-true 32 b (and_parts (nat_le 32 b) (nat_le b 126) parts.0).0)
  where
    by : (quote back : Bool) → nat_eq b 34 ≡ quote → nat_eq b 92 ≡ back → not (quote || back) ≡ true → 32 ≤ b → escape_byte b ≡ b ∷ []
    by false false q k other low =
        rw (q, k, ne_eqb b 8 (λ e. omega arith), ne_eqb b 12 (λ e. omega arith), ne_eqb b 10 (λ e. omega arith), ne_eqb b 13 (λ e. omega arith), ne_eqb b 9 (λ e. omega arith), le-ltb b 32 low) refl
    by true back q k other low = cc
    by false true q k other low = cc

escaped : (text : List ℕ) → list_all is_plain text ≡ true → escape text ≡ text
escaped [] each = refl
escaped (b ∷ bs) each =
    let parts = and_parts (is_plain b) (list_all is_plain bs) each in
    rw (shown b parts.0, escaped bs parts.1) refl

-- JSON writes a plain text as it is
pub as_it_is : {text : List ℕ} → IsPlain text → escape text ≡ text
as_it_is {text} is = escaped text is.each
