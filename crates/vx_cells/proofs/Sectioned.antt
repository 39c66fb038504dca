-- How many sections a sector has.
use Rattle.std.proofs.Common.{◌≡◌, ℕ, ◌+◌, ◌*◌, ◌%◌, unsigned_abs, ◌<◌, ◌≤◌, ◌⊎◌, inl, inr, List, replicate, nat_lt, refl, sym, ap, subst, ◌∙◌, arith}
use Rattle.std.proofs.lemmas.Bool.{cases_eq}
use Rattle.std.proofs.lemmas.Nat.{mul-le}
use Rattle.vx_geom.specs.declared.bounds.TheConstants.{LOW_HEIGHT, HIGH_HEIGHT, MAX_CHUNKS_EACH_WAY}
use Rattle.vx_geom.specs.declared.pos.Pos.{Pos}
use Rattle.vx_geom.specs.Sizes.{Sizes, AreSizes, span, sector_cells, index_in_sector}
use Rattle.vx_section.specs.Forms.{filled}
use Rattle.vx_section.specs.Indices.{section_count, side_of}
use Rattle.vx_section.proofs.Filled.{filled_is}

-- a sector has a side of one chunk or of two
pub side_is : (s : ℕ) → 1 ≤ s → s ≤ MAX_CHUNKS_EACH_WAY → (s ≡ 1) ⊎ (s ≡ 2)
side_is s least most = elim (cases_eq s 1) [
  | inl one ↦ inl one
  | inr more ↦ inr (omega (arith, more))
]

-- a world has one height or the other
height_is : (h : ℕ) → LOW_HEIGHT ≤ h → h ≤ HIGH_HEIGHT → h % LOW_HEIGHT ≡ 0 → (h ≡ LOW_HEIGHT) ⊎ (h ≡ HIGH_HEIGHT)
height_is h least most whole = elim (cases_eq h LOW_HEIGHT) [
  | inl low ↦ inl low
  | inr more ↦ inr (omega (arith, least, most, whole, more))
]

-- what is so of sectors of both sides in worlds of both heights
by_sizes : (P : ℕ → ℕ → Type 0) → P 1 LOW_HEIGHT → P 1 HIGH_HEIGHT → P 2 LOW_HEIGHT → P 2 HIGH_HEIGHT
    → (v : Sizes) → AreSizes v → P v.s v.h
by_sizes P narrow_low narrow_high wide_low wide_high v sizes =
    elim (side_is v.s sizes.s_least sizes.s_most) [
      | inl one ↦ elim (height_is v.h sizes.h_least sizes.h_most sizes.h_whole) [
        | inl low ↦ subst (P v.s) (sym low) (subst (λ s. P s LOW_HEIGHT) (sym one) narrow_low)
        | inr high ↦ subst (P v.s) (sym high) (subst (λ s. P s HIGH_HEIGHT) (sym one) narrow_high)
      ]
      | inr two ↦ elim (height_is v.h sizes.h_least sizes.h_most sizes.h_whole) [
        | inl low ↦ subst (P v.s) (sym low) (subst (λ s. P s LOW_HEIGHT) (sym two) wide_low)
        | inr high ↦ subst (P v.s) (sym high) (subst (λ s. P s HIGH_HEIGHT) (sym two) wide_high)
      ]
    ]

-- how many sections the sectors of a world have
abbrev pub sections : Sizes → ℕ
sections v = section_count (nat_lt 16 (span v)) (nat_lt LOW_HEIGHT v.h)

-- all sections have as many places as the sector has cells
pub all_sections : (v : Sizes) → AreSizes v → 4096 * sections v ≡ sector_cells v
all_sections =
    by_sizes (λ s h. 4096 * section_count (nat_lt 16 (16 * s)) (nat_lt LOW_HEIGHT h) ≡ 16 * s * (16 * s) * h)
    refl refl refl refl

-- and these are whole words
pub whole_words : (v : Sizes) → AreSizes v → sector_cells v % 64 ≡ 0
whole_words v sizes = omega (arith, all_sections v sizes)

-- a byte at each of these places
pub all_alike : (v : Sizes) → AreSizes v → (wide low high : ℕ) → wide ≡ span v → low ≡ LOW_HEIGHT → high ≡ v.h → (codes : List ℕ) (byte : ℕ)
    → codes ≡ filled (4096 * section_count (nat_lt 16 wide) (nat_lt low high)) byte → codes ≡ replicate (sector_cells v) byte
all_alike v sizes wide low high span_is low_is height_is codes byte are =
    are ∙ sym (filled_is (4096 * section_count (nat_lt 16 wide) (nat_lt low high)) byte)
    ∙ (λ i. replicate (4096 * section_count (nat_lt 16 (span_is i)) (nat_lt (low_is i) (height_is i))) byte)
    ∙ ap (λ n. replicate n byte) (all_sections v sizes)

-- a side of a sector has as many columns as its sections say
side_by_cells : (v : Sizes) → AreSizes v → side_of (sector_cells v) ≡ span v
side_by_cells = by_sizes (λ s h. side_of (16 * s * (16 * s) * h) ≡ 16 * s) refl refl refl refl

-- so that a layer of the world is one of the sector
pub layer_within : (v : Sizes) (bytes layer : ℕ) → AreSizes v → bytes ≡ sector_cells v → layer < v.h
    → side_of bytes * side_of bytes * (layer + 1) ≤ bytes
layer_within v bytes layer sizes same low =
    let side : side_of bytes ≡ span v = ap side_of same ∙ side_by_cells v sizes in
    let most = mul-le (span v * span v) (layer + 1) (span v * span v) v.h (omega arith) (omega (arith, low)) in
    subst (λ n. side_of bytes * side_of bytes * (layer + 1) ≤ n) (sym same)
    (subst (λ n. n * n * (layer + 1) ≤ sector_cells v) (sym side) most)

-- and a column, a layer and a row have the index of their position
pub index_by_sides : (v : Sizes) (p : Pos) (bytes column layer row : ℕ) → AreSizes v → bytes ≡ sector_cells v
    → column ≡ unsigned_abs p.x → layer ≡ unsigned_abs p.y → row ≡ unsigned_abs p.z
    → column % side_of bytes + side_of bytes * (row % side_of bytes + side_of bytes * layer) ≡ index_in_sector v p
unfolding index_in_sector
index_by_sides v p bytes column layer row sizes same x y z =
    let side : side_of bytes ≡ span v = ap side_of same ∙ side_by_cells v sizes in
    λ i. x i % side i + side i * (z i % side i + side i * y i)
