-- Sections with the same bytes are those with the same byte at each index.
use Rattle.std.proofs.Common.{◌≡◌, ℕ, ◌+◌, ◌*◌, ◌/◌, ◌%◌, ◌<◌, IsTrue, not, Bool, true, false, List, length, get_or, if◌then◌else◌, refl, sym, ◌∙◌, ap, arith}
use Rattle.std.proofs.lemmas.List.{ext_get_or}
use Rattle.std.proofs.Math.Bool.{beq}
use Rattle.vx_section.specs.Forms.{SectionData}
use Rattle.vx_section.specs.declared.sections.TheConstants.{MOST_SECTIONS}
use Rattle.vx_section.specs.Indices.{section_of, place_of, section_count, nothing, byte_at, bytes_of, AreSections, AreSame}
use Rattle.vx_section.proofs.Digits.{section_apart, place_apart}
use Rattle.vx_section.proofs.Storing.{length-bytes_of, read_bytes, section_within, count_below}

-- the index of a place of a section
index_of : Bool → ℕ → ℕ → ℕ
index_of wide k n = if wide then k / 4 * 16384 + n / 256 * 1024 + k / 2 % 2 * 512 + n / 16 % 16 * 32 + k % 2 * 16 + n % 16 else k * 4096 + n

section_back : (wide : Bool) (k n : ℕ) → n < 4096 → section_of wide (index_of wide k n) ≡ k
unfolding index_of
section_back false k n n-low = omega arith
section_back true k n n-low =
    section_apart (k / 4) (n / 256) (k / 2 % 2) (n / 16 % 16) (k % 2) (n % 16) (omega arith) (omega arith) (omega arith) (omega arith) (omega arith)
    ∙ omega arith

place_back : (wide : Bool) (k n : ℕ) → n < 4096 → place_of wide (index_of wide k n) ≡ n
unfolding index_of
place_back false k n n-low = omega arith
place_back true k n n-low =
    place_apart (k / 4) (n / 256) (k / 2 % 2) (n / 16 % 16) (k % 2) (n % 16) (omega arith) (omega arith) (omega arith) (omega arith) (omega arith)
    ∙ omega arith

index_below : (wide high : Bool) (k n : ℕ) → k < section_count wide high → n < 4096 → index_of wide k n < 4096 * section_count wide high
unfolding index_of
index_below true true k n k-low n-low = omega arith
index_below true false k n k-low n-low = omega arith
index_below false true k n k-low n-low = omega arith
index_below false false k n k-low n-low = omega arith

-- a place of a section is read at its index
read_back : (wide high : Bool) (ss : List SectionData) (k n : ℕ) → k < section_count wide high → n < 4096
    → get_or (bytes_of wide high ss) (index_of wide k n) 0 ≡ get_or (get_or ss k nothing).bytes n 0
unfolding byte_at
read_back wide high ss k n low n-low =
    read_bytes wide high ss (index_of wide k n) (index_below wide high k n low n-low)
    ∙ ap (λ m. get_or (get_or ss m nothing).bytes (place_of wide (index_of wide k n)) 0) (section_back wide k n n-low)
    ∙ ap (λ m. get_or (get_or ss k nothing).bytes m 0) (place_back wide k n n-low)

pub same_bytes : (wide high : Bool) (ss ts : List SectionData) → AreSame (section_count wide high) ss ts → bytes_of wide high ss ≡ bytes_of wide high ts
unfolding byte_at
same_bytes wide high ss ts same =
    let long = length-bytes_of wide high ss in
    ext_get_or 0 _ _ (long ∙ sym (length-bytes_of wide high ts)) (λ i low.
    let below : i < 4096 * section_count wide high = omega arith in
    read_bytes wide high ss i below
    ∙ ap (λ bs. get_or bs (place_of wide i) 0) (same (section_of wide i) (section_within wide high i below))
    ∙ sym (read_bytes wide high ts i below))

pub same_each : (wide high : Bool) (ss ts : List SectionData) → AreSections ss → AreSections ts → bytes_of wide high ss ≡ bytes_of wide high ts
    → AreSame (section_count wide high) ss ts
same_each wide high ss ts mine its same k low =
    let there : k < MOST_SECTIONS = omega (arith, low, count_below wide high) in
    let long = mine.long k there in
    ext_get_or 0 _ _ (long ∙ sym (its.long k there)) (λ n n-low.
    let within : n < 4096 = omega arith in
    sym (read_back wide high ss k n low within) ∙ ap (λ bs. get_or bs (index_of wide k n) 0) same ∙ read_back wide high ts k n low within)

-- and those of as many bytes have one width and one height
pub one_shape : (v a w b : Bool) (ss ts : List SectionData) → bytes_of v a ss ≡ bytes_of w b ts → (v ≡ w) × (a ≡ b)
one_shape v a w b ss ts same =
    by v a w b (sym (length-bytes_of v a ss) ∙ ap length same ∙ length-bytes_of w b ts)
  where
    by : (v a w b : Bool) → 4096 * section_count v a ≡ 4096 * section_count w b → (v ≡ w) × (a ≡ b)
    by true true true true e = (refl, refl)
    by true false true false e = (refl, refl)
    by false true false true e = (refl, refl)
    by false false false false e = (refl, refl)
    by true true true false e = absurd (omega arith)
    by true true false true e = absurd (omega arith)
    by true true false false e = absurd (omega arith)
    by true false true true e = absurd (omega arith)
    by true false false true e = absurd (omega arith)
    by true false false false e = absurd (omega arith)
    by false true true true e = absurd (omega arith)
    by false true true false e = absurd (omega arith)
    by false true false false e = absurd (omega arith)
    by false false true true e = absurd (omega arith)
    by false false true false e = absurd (omega arith)
    by false false false true e = absurd (omega arith)

-- the test of two widths, or of two heights
pub same_test : (v w : Bool) → not (beq v w) ≡ false → w ≡ v
same_test true true e = refl
same_test false false e = refl
same_test true false e = absurd (cc)
same_test false true e = absurd (cc)

pub never_same : (v w : Bool) → not (beq v w) ≡ true → v ≡ w → IsTrue false
never_same true true e same = absurd (cc)
never_same false false e same = absurd (cc)
never_same true false e same = absurd (cc)
never_same false true e same = absurd (cc)

pub untrue : (xs ys : List ℕ) → IsTrue false → xs ≡ ys
untrue xs ys never = absurd (cc)
