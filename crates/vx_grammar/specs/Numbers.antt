use Rattle.std.specs.Prelude.{ℕ, ℤ, pos, negsuc, neg_ℤ, ◌-◌, ◌^◌, ◌&&◌, ◌==◌, if◌then◌else◌, nat_le, not, List, length, drop, slice_index, Option, Some, None, option_map, option_and_then}
use Rattle.std.specs.Str.{all_ascii_digits}
use Rattle.std.specs.Str.Parse.{digits_value}
use Rattle.vx_base.specs.Ranges.{within}

-- the value of a text of decimal digits
abbrev pub digits_of : List ℕ → Option ℕ
digits_of text =
    if not (length text == 0) && all_ascii_digits text then Some (digits_value 10 text) else None

-- the whole number that a text spells: decimal digits, with a `-` before them for one below zero
unfoldable pub number_of : List ℕ → Option ℤ
number_of text =
    if slice_index text 0 == 45
    then option_map (λ n. neg_ℤ (pos n)) (digits_of (drop 1 text))
    else option_map pos (digits_of text)

-- a number of 32 bits with a sign
unfoldable pub i32_of : List ℕ → Option ℤ
i32_of text = option_and_then (within (neg_ℤ (pos (2 ^ 31))) (pos (2 ^ 31 - 1))) (number_of text)

-- a number, where it is not below 0 and at most this one
abbrev pub natural_within : ℕ → ℤ → Option ℕ
natural_within high (pos n) = if nat_le n high then Some n else None
natural_within high (negsuc n) = None

-- a number of 8 bits without a sign
unfoldable pub u8_of : List ℕ → Option ℕ
u8_of text = option_and_then (natural_within 255) (number_of text)

-- a number of 16 bits without a sign
unfoldable pub u16_of : List ℕ → Option ℕ
u16_of text = option_and_then (natural_within 65535) (number_of text)
