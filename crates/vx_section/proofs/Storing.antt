-- Bytes over sections.
use Rattle.std.proofs.Common.{◌≡◌, ◌≢◌, ℕ, ◌+◌, ◌*◌, ◌/◌, ◌%◌, ◌<◌, ◌≤◌, Bool, true, false, List, length, get_or, set, inl, inr, sym, subst, ◌∙◌, ap, arith}
use Rattle.std.proofs.lemmas.Bool.{cases_eq}
use Rattle.std.proofs.lemmas.List.{get_or-set_same, get_or-set_other, ext_get_or}
use Rattle.std.proofs.Math.ListN.{length-set}
use Rattle.std.proofs.lemmas.List.FromFn.{length-map-range_with_len, get_or-map-range_with_len}
use Rattle.vx_section.specs.Forms.{SectionData, filled}
use Rattle.vx_section.proofs.Digits.{side_is}
use Rattle.vx_section.proofs.Filled.{get_filled, length-filled}
use Rattle.vx_section.specs.declared.sections.TheConstants.{MOST_SECTIONS}
use Rattle.vx_section.specs.Indices.{section_of, place_of, section_count, columns_of, side_of, nothing, byte_at, bytes_of}

pub length-bytes_of : (wide high : Bool) (ss : List SectionData) → length (bytes_of wide high ss) ≡ 4096 * section_count wide high
unfolding bytes_of
length-bytes_of wide high ss = length-map-range_with_len (byte_at wide ss) 0 (4096 * section_count wide high)

-- the side and the layers that so many bytes tell
pub side_told : (wide high : Bool) (ss : List SectionData) → side_of (length (bytes_of wide high ss)) ≡ columns_of wide
side_told wide high ss = ap side_of (length-bytes_of wide high ss) ∙ side_is wide high

pub layers_told : (wide high : Bool) (ss : List SectionData) (layer : ℕ)
    → side_of (length (bytes_of wide high ss)) * side_of (length (bytes_of wide high ss)) * (layer + 1) ≤ length (bytes_of wide high ss)
    → columns_of wide * columns_of wide * (layer + 1) ≤ 4096 * section_count wide high
layers_told wide high ss layer low =
    subst (λ n. columns_of wide * columns_of wide * (layer + 1) ≤ n) (length-bytes_of wide high ss)
    (subst (λ s. s * s * (layer + 1) ≤ length (bytes_of wide high ss)) (side_told wide high ss) low)

pub read_bytes : (wide high : Bool) (ss : List SectionData) (i : ℕ) → i < 4096 * section_count wide high → get_or (bytes_of wide high ss) i 0 ≡ byte_at wide ss i
unfolding bytes_of
read_bytes wide high ss i near = get_or-map-range_with_len (byte_at wide ss) 0 (4096 * section_count wide high) i i 0 near (omega arith)

-- the byte of an index stands in its section at its place
pub read_place : (wide high : Bool) (ss : List SectionData) (i k n : ℕ) (s : SectionData) → i < 4096 * section_count wide high
    → k ≡ section_of wide i → n ≡ place_of wide i → s ≡ get_or ss k nothing → get_or s.bytes n 0 ≡ get_or (bytes_of wide high ss) i 0
unfolding byte_at
read_place wide high ss i k n s near section place read =
    ap (λ t. get_or t.bytes n 0) read
    ∙ ap (λ m. get_or (get_or ss m nothing).bytes n 0) section
    ∙ ap (λ m. get_or (get_or ss (section_of wide i) nothing).bytes m 0) place
    ∙ sym (read_bytes wide high ss i near)

-- an index is told by its section and its place
one_index : (wide : Bool) (i j : ℕ) → section_of wide i ≡ section_of wide j → place_of wide i ≡ place_of wide j → i ≡ j
one_index false i j s p = omega arith
one_index true i j s p =
    let y : i / 16384 ≡ j / 16384 = omega arith in
    let z : i / 512 % 2 ≡ j / 512 % 2 = omega arith in
    let x : i / 16 % 2 ≡ j / 16 % 2 = omega arith in
    let v : i / 1024 % 16 ≡ j / 1024 % 16 = omega arith in
    let w : i / 32 % 16 ≡ j / 32 % 16 = omega arith in
    let u : i % 16 ≡ j % 16 = omega arith in
    omega arith

pub section_within : (wide high : Bool) (i : ℕ) → i < 4096 * section_count wide high → section_of wide i < section_count wide high
section_within true true i near = omega arith
section_within true false i near = omega arith
section_within false true i near = omega arith
section_within false false i near = omega arith

-- no sector has more sections than the largest
pub count_below : (wide high : Bool) → section_count wide high ≤ MOST_SECTIONS
count_below true true = omega arith
count_below true false = omega arith
count_below false true = omega arith
count_below false false = omega arith

place_within : (wide : Bool) (i : ℕ) → place_of wide i < 4096
place_within false i = omega arith
place_within true i = omega arith

-- another byte in one place of one section
byte_set : (wide : Bool) (ss : List SectionData) (i j byte : ℕ) (s : SectionData)
    → section_of wide i < length ss
    → place_of wide i < length (get_or ss (section_of wide i) nothing).bytes
    → s.bytes ≡ set (get_or ss (section_of wide i) nothing).bytes (place_of wide i) byte
    → (i ≡ j → byte_at wide (set ss (section_of wide i) s) j ≡ byte) × (i ≢ j → byte_at wide (set ss (section_of wide i) s) j ≡ byte_at wide ss j)
unfolding byte_at
byte_set wide ss i j byte s near within is =
    let k = section_of wide i in
    let n = place_of wide i in
    let old = (get_or ss k nothing).bytes in (
      λ same. subst (λ m. get_or (get_or (set ss k s) (section_of wide m) nothing).bytes (place_of wide m) 0 ≡ byte) same
          (ap (λ t. get_or t.bytes n 0) (get_or-set_same ss k s nothing near) ∙ ap (λ bs. get_or bs n 0) is ∙ get_or-set_same old n byte 0 within),
      λ apart. elim (cases_eq (section_of wide j) k) [
        | inl here ↦
            let other : place_of wide j ≢ n = λ e. apart (one_index wide i j (sym here) (sym e)) in
            subst (λ m. get_or (get_or (set ss k s) m nothing).bytes (place_of wide j) 0 ≡ get_or (get_or ss m nothing).bytes (place_of wide j) 0) (sym here)
            (ap (λ t. get_or t.bytes (place_of wide j) 0) (get_or-set_same ss k s nothing near) ∙ ap (λ bs. get_or bs (place_of wide j) 0) is ∙ get_or-set_other old n (place_of wide j) byte 0 other)
        | inr there ↦ ap (λ t. get_or t.bytes (place_of wide j) 0) (get_or-set_other ss k (section_of wide j) s nothing there)
      ],
    )

bytes_changed : (wide high : Bool) (ss : List SectionData) (i byte : ℕ) (s : SectionData)
    → i < 4096 * section_count wide high
    → section_of wide i < length ss
    → place_of wide i < length (get_or ss (section_of wide i) nothing).bytes
    → s.bytes ≡ set (get_or ss (section_of wide i) nothing).bytes (place_of wide i) byte
    → bytes_of wide high (set ss (section_of wide i) s) ≡ set (bytes_of wide high ss) i byte
bytes_changed wide high ss i byte s within near place is =
    let k = section_of wide i in
    let long = length-bytes_of wide high (set ss k s) in
    let long_old = length-set (bytes_of wide high ss) i byte ∙ length-bytes_of wide high ss in
    ext_get_or 0 _ _ (long ∙ sym long_old) (λ j low.
    let below : j < 4096 * section_count wide high = omega arith in
    let both = byte_set wide ss i j byte s near place is in
    read_bytes wide high (set ss k s) j below ∙
    elim (cases_eq i j) [
      | inl here ↦ both.0 here ∙ sym (subst (λ m. get_or (set (bytes_of wide high ss) i byte) m 0 ≡ byte) here (get_or-set_same (bytes_of wide high ss) i byte 0 (omega (arith, long_old, length-bytes_of wide high ss))))
      | inr apart ↦ both.1 apart ∙ sym (get_or-set_other (bytes_of wide high ss) i j byte 0 (λ e. apart (sym e)) ∙ read_bytes wide high ss j below)
    ])

pub bytes_set : (wide high : Bool) (ss : List SectionData) (i byte k n : ℕ) (s : SectionData)
    → i < 4096 * section_count wide high → k < length ss → k ≡ section_of wide i → n ≡ place_of wide i
    → n < length (get_or ss k nothing).bytes → s.bytes ≡ set (get_or ss k nothing).bytes n byte
    → bytes_of wide high (set ss k s) ≡ set (bytes_of wide high ss) i byte
bytes_set wide high ss i byte k n s low near section place within is =
    ap (λ m. bytes_of wide high (set ss m s)) section
    ∙ bytes_changed wide high ss i byte s low (subst (λ m. m < length ss) section near)
    (subst (λ m. m < length (get_or ss (section_of wide i) nothing).bytes) place (subst (λ m. n < length (get_or ss m nothing).bytes) section within))
    (is ∙ ap (λ m. set (get_or ss m nothing).bytes n byte) section ∙ ap (λ m. set (get_or ss (section_of wide i) nothing).bytes m byte) place)

pub bytes_blank : (wide high : Bool) (ss : List SectionData) (byte : ℕ)
    → ((k : ℕ) → k < section_count wide high → (get_or ss k nothing).bytes ≡ filled 4096 byte)
    → bytes_of wide high ss ≡ filled (4096 * section_count wide high) byte
unfolding byte_at
bytes_blank wide high ss byte each =
    let long = length-bytes_of wide high ss in
    ext_get_or 0 _ _ (long ∙ sym (length-filled (4096 * section_count wide high) byte)) (λ i low.
    let within : i < 4096 * section_count wide high = omega arith in
    read_bytes wide high ss i within
    ∙ ap (λ bs. get_or bs (place_of wide i) 0) (each (section_of wide i) (section_within wide high i within))
    ∙ get_filled 4096 byte (place_of wide i) (place_within wide i)
    ∙ sym (get_filled (4096 * section_count wide high) byte i within))
