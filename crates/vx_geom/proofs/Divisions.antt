-- Numbers that are cut into parts of one width, and numbers made of a row and a column.
use Rattle.std.proofs.Common.{◌≡◌, ℕ, ◌+◌, ◌*◌, ◌/◌, ◌%◌, ◌<◌, ◌≤◌, arith, ap, ◌∙◌}
use Rattle.std.proofs.Math.Nat.{div-eq_of_lt-le}
use Rattle.std.proofs.lemmas.Nat.{mul-add-lt, div-mul-add, mod-mul-add, same_from_place, div_below, row_fits}

-- a number lies in its part
pub in_part : (w x : ℕ) → 0 < w → (w * (x / w) ≤ x) × (x < w * (x / w + 1))
in_part w x wide = (omega arith, omega arith)

-- the part that a number lies in is its quotient
pub part_is : (w c x : ℕ) → 0 < w → w * c ≤ x → x < w * (c + 1) → x / w ≡ c
part_is w c x wide low high = div-eq_of_lt-le {k = c} w {m = x} (omega arith) (omega arith)

-- a number below n parts lies in a part below n
pub part_below : (w n x : ℕ) → 0 < w → x < n * w → x / w < n
part_below w n x wide low = div_below x w n wide low

-- a number in a part below n is below n parts
pub below_parts : (w n c x : ℕ) → c < n → x < w * (c + 1) → x < n * w
below_parts w n c x low high = omega (arith, row_fits c w n w low (omega arith))

-- column c of row r, where a row has n columns
pub number_column : (n c r : ℕ) → c < n → (c + n * r) % n ≡ c
number_column n c r low =
    let turned : c + n * r ≡ r * n + c = omega arith in ap (λ k. k % n) turned ∙ mod-mul-add r n c low

pub number_row : (n c r : ℕ) → c < n → (c + n * r) / n ≡ r
number_row n c r low =
    let turned : c + n * r ≡ r * n + c = omega arith in ap (λ k. k / n) turned ∙ div-mul-add r n c low

pub number_below : (n m c r : ℕ) → c < n → r < m → c + n * r < n * m
number_below n m c r in_row in_column = omega (arith, mul-add-lt r n c m in_column in_row)

-- one number has one column and one row
pub same_number : (n a b c d : ℕ) → a < n → c < n → a + n * b ≡ c + n * d → (a ≡ c) × (b ≡ d)
same_number n a b c d low_a low_c same =
    let both : (b ≡ d) × (a ≡ c) = same_from_place b a d c n low_a low_c (omega arith) in (both.1, both.0)

-- a number is known from its part and its place there
pub same_from_part : (w x y : ℕ) → x / w ≡ y / w → x % w ≡ y % w → x ≡ y
same_from_part w x y parts rests = omega (arith, ap (λ k. w * k) parts, rests)
