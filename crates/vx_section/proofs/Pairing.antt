-- Numbers of four bits, two to a byte.
use Rattle.std.proofs.Common.{◌≡◌, ℕ, ◌+◌, ◌*◌, ◌/◌, ◌%◌, ◌<◌, ◌≤◌, ◌||◌, take, Bool, true, false, List, [], ◌∷◌, length, replicate, get_or, set, zero, suc, nat_eq, refl, ap, ◌∙◌, arith}
use Rattle.std.specs.List.{AllByRecursion, list_any}
use Rattle.std.proofs.lemmas.Bool.{eq-eqb}
use Rattle.vx_section.specs.Forms.{unpacked, kind_at, IsPair}

-- a place of the first of a pair, and of the second
pub read_low : (palette pairs : List ℕ) (k : ℕ) → k < length pairs → get_or (unpacked palette pairs) (2 * k) 0 ≡ kind_at palette (get_or pairs k 0 % 16)
read_low palette [] k near = elim near [ ]
read_low palette (p ∷ ps) zero near = refl
read_low palette (p ∷ ps) (suc k) near =
    let e : 2 * suc k ≡ suc (suc (2 * k)) = omega arith in
    ap (λ i. get_or (unpacked palette (p ∷ ps)) i 0) e ∙ read_low palette ps k (omega arith)

pub read_high : (palette pairs : List ℕ) (k : ℕ) → k < length pairs → get_or (unpacked palette pairs) (2 * k + 1) 0 ≡ kind_at palette (get_or pairs k 0 / 16)
read_high palette [] k near = elim near [ ]
read_high palette (p ∷ ps) zero near = refl
read_high palette (p ∷ ps) (suc k) near =
    let e : 2 * suc k + 1 ≡ suc (suc (2 * k + 1)) = omega arith in
    ap (λ i. get_or (unpacked palette (p ∷ ps)) i 0) e ∙ read_high palette ps k (omega arith)

-- a pair whose first is another one, and one whose second is
pub set_low : (palette pairs : List ℕ) (k x n : ℕ) → k < length pairs → x % 16 ≡ n → x / 16 ≡ get_or pairs k 0 / 16
    → unpacked palette (set pairs k x) ≡ set (unpacked palette pairs) (2 * k) (kind_at palette n)
set_low palette [] k x n near low high = elim near [ ]
set_low palette (p ∷ ps) zero x n near low high =
    ap (λ a. kind_at palette a ∷ kind_at palette (x / 16) ∷ unpacked palette ps) low
    ∙ ap (λ a. kind_at palette n ∷ kind_at palette a ∷ unpacked palette ps) high
set_low palette (p ∷ ps) (suc k) x n near low high =
    let e : suc (suc (2 * k)) ≡ 2 * suc k = omega arith in
    ap (λ bs. kind_at palette (p % 16) ∷ kind_at palette (p / 16) ∷ bs) (set_low palette ps k x n (omega arith) low high)
    ∙ ap (λ i. set (unpacked palette (p ∷ ps)) i (kind_at palette n)) e

pub set_high : (palette pairs : List ℕ) (k x n : ℕ) → k < length pairs → x / 16 ≡ n → x % 16 ≡ get_or pairs k 0 % 16
    → unpacked palette (set pairs k x) ≡ set (unpacked palette pairs) (2 * k + 1) (kind_at palette n)
set_high palette [] k x n near high low = elim near [ ]
set_high palette (p ∷ ps) zero x n near high low =
    ap (λ a. kind_at palette a ∷ kind_at palette (x / 16) ∷ unpacked palette ps) low
    ∙ ap (λ a. kind_at palette (p % 16) ∷ kind_at palette a ∷ unpacked palette ps) high
set_high palette (p ∷ ps) (suc k) x n near high low =
    let e : suc (suc (2 * k + 1)) ≡ 2 * suc k + 1 = omega arith in
    ap (λ bs. kind_at palette (p % 16) ∷ kind_at palette (p / 16) ∷ bs) (set_high palette ps k x n (omega arith) high low)
    ∙ ap (λ i. set (unpacked palette (p ∷ ps)) i (kind_at palette n)) e

pub length-unpacked : (palette pairs : List ℕ) → length (unpacked palette pairs) ≡ 2 * length pairs
length-unpacked palette [] = refl
length-unpacked palette (p ∷ ps) = let e = length-unpacked palette ps in omega arith

-- as many numbers 0
pub zeros_unpacked : (palette : List ℕ) (n : ℕ) → unpacked palette (replicate n 0) ≡ replicate (2 * n) (kind_at palette 0)
zeros_unpacked palette zero = refl
zeros_unpacked palette (suc n) =
    let e : suc (suc (2 * n)) ≡ 2 * suc n = omega arith in
    ap (λ bs. kind_at palette 0 ∷ kind_at palette 0 ∷ bs) (zeros_unpacked palette n) ∙ ap (λ m. replicate m (kind_at palette 0)) e

pub zeros_fit : (n : ℕ) → AllByRecursion (IsPair 1) (replicate n 0)
zeros_fit zero = tt
zeros_fit (suc n) = ((omega arith, omega arith), zeros_fit n)

-- palettes that agree below a count
pub same_unpacked : (a b pairs : List ℕ) (count : ℕ) → ((k : ℕ) → k < count → kind_at a k ≡ kind_at b k) → AllByRecursion (IsPair count) pairs → unpacked a pairs ≡ unpacked b pairs
same_unpacked a b [] count same fits = refl
same_unpacked a b (p ∷ ps) count same fits =
    ap (λ x. x ∷ kind_at a (p / 16) ∷ unpacked a ps) (same (p % 16) fits.0.0)
    ∙ ap (λ x. kind_at b (p % 16) ∷ x ∷ unpacked a ps) (same (p / 16) fits.0.1)
    ∙ ap (λ xs. kind_at b (p % 16) ∷ kind_at b (p / 16) ∷ xs) (same_unpacked a b ps count same fits.1)

-- a byte of the palette stands in it, and so does each byte of a place
known_at : (palette : List ℕ) (used n : ℕ) → n < used → used ≤ length palette → list_any (nat_eq (kind_at palette n)) (take used palette) ≡ true
known_at [] used n low fits = absurd (omega arith)
known_at (b ∷ bs) zero n low fits = absurd (omega arith)
known_at (b ∷ bs) (suc used) zero low fits = ap (λ first. first || list_any (nat_eq b) (take used bs)) (eq-eqb b b refl)
known_at (b ∷ bs) (suc used) (suc n) low fits =
    let rest = known_at bs used n (omega arith) (omega arith) in
    by (nat_eq (kind_at bs n) b) rest
  where
    by : (first : Bool) → list_any (nat_eq (kind_at bs n)) (take used bs) ≡ true → (first || list_any (nat_eq (kind_at bs n)) (take used bs)) ≡ true
    by true rest = refl
    by false rest = rest

pub unpacked_known : (palette pairs : List ℕ) (used place : ℕ) → used ≤ length palette → AllByRecursion (IsPair used) pairs → place < 2 * length pairs
    → list_any (nat_eq (get_or (unpacked palette pairs) place 0)) (take used palette) ≡ true
unpacked_known palette [] used place fits numbers within = absurd (omega arith)
unpacked_known palette (p ∷ ps) used zero fits numbers within = known_at palette used (p % 16) numbers.0.0 fits
unpacked_known palette (p ∷ ps) used (suc zero) fits numbers within = known_at palette used (p / 16) numbers.0.1 fits
unpacked_known palette (p ∷ ps) used (suc (suc place)) fits numbers within = unpacked_known palette ps used place fits numbers.1 (omega arith)
