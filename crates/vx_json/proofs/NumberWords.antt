-- A number that is written is read as that number.
use Rattle.std.proofs.Common.{◌≡◌, ◌≢◌, ℕ, suc, ℤ, pos, negsuc, ◌-◌, ◌^◌, ◌<◌, true, length, get_or, Some, refl, ap, arith}
use Rattle.std.specs.Fmt.{decimal, signed_decimal}
use Rattle.std.specs.Int.{w32}
use Rattle.std.specs.Prelude.{FitsSigned}
use Rattle.std.specs.Str.{all_ascii_digits}
use Rattle.std.specs.Str.Parse.{digits_value}
use Rattle.std.proofs.lemmas.Bool.{le-leb, ne_eqb}
use Rattle.std.proofs.lemmas.Int.{ints}
use Rattle.std.proofs.lemmas.Fmt.{decimal_nonempty, digits_decimal, digits_value-decimal}
use Rattle.std.proofs.lemmas.Str.Parse.{IsNumeralModel, numerals_by_value, tells_all_ascii_digits, not_in_digits}
use Rattle.vx_grammar.specs.Numbers.{digits_of, number_of, i32_of, u8_of, u16_of}

numerals : IsNumeralModel (λ ds. all_ascii_digits ds ≡ true) (digits_value 10)
numerals = numerals_by_value (λ ds. all_ascii_digits ds ≡ true) tells_all_ascii_digits

-- a written number is digits
pub all_digits : (n : ℕ) → n < 2 ^ 64 → all_ascii_digits (decimal n) ≡ true
all_digits n small = digits_decimal numerals n small

pub some_digit : (n : ℕ) → n < 2 ^ 64 → 0 < length (decimal n)
some_digit n small = decimal_nonempty n small

-- and of its value
digits_back : (n : ℕ) → n < 2 ^ 64 → digits_of (decimal n) ≡ Some n
digits_back n small =
    let some = some_digit n small in
    rw (ne_eqb (length (decimal n)) 0 (λ e. omega arith), all_digits n small) (ap Some (digits_value-decimal numerals n small))

-- it begins with no sign
no_minus : (n : ℕ) → n < 2 ^ 64 → get_or (decimal n) 0 0 ≢ 45
no_minus n small = not_in_digits numerals (decimal n) 45 (all_digits n small) (λ range. omega arith) 0 (some_digit n small)

number_back : (n : ℕ) → n < 2 ^ 64 → number_of (decimal n) ≡ Some (pos n)
unfolding number_of
number_back n small = rw (ne_eqb (get_or (decimal n) 0 0) 45 (no_minus n small), digits_back n small) refl

minus_back : (n : ℕ) → suc n < 2 ^ 64 → number_of (signed_decimal (negsuc n)) ≡ Some (negsuc n)
unfolding number_of
minus_back n small = rw (digits_back (suc n) small) refl

-- a number of 32 bits
pub i32_back : (z : ℤ) → FitsSigned w32 z → i32_of (signed_decimal z) ≡ Some z
unfolding i32_of
i32_back (pos n) fits =
    let small : n < 2 ^ 31 = omega (arith, ints) in
    rw (number_back n (omega arith), le-leb n (2 ^ 31 - 1) (omega arith)) refl
i32_back (negsuc n) fits =
    let small : n < 2 ^ 31 = omega (arith, ints) in
    rw (minus_back n (omega arith), le-leb n (2 ^ 31 - 1) (omega arith)) refl

-- one of 8 bits, and one of 16
pub u8_back : (n : ℕ) → n < 2 ^ 8 → u8_of (decimal n) ≡ Some n
unfolding u8_of
u8_back n small = rw (number_back n (omega arith), le-leb n 255 (omega arith)) refl

pub u16_back : (n : ℕ) → n < 2 ^ 16 → u16_of (decimal n) ≡ Some n
unfolding u16_of
u16_back n small = rw (number_back n (omega arith), le-leb n 65535 (omega arith)) refl
