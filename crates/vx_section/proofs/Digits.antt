-- The digits of an index: of its layer, its row and its column.
use Rattle.std.proofs.Common.{◌≡◌, ℕ, ◌+◌, ◌*◌, ◌/◌, ◌%◌, ◌<◌, ◌≤◌, Bool, true, false, refl, ◌∙◌, ap, arith}
use Rattle.vx_section.specs.Indices.{section_of, place_of, section_count, columns_of, index_at, side_of}

-- digits put together and taken apart
pub section_apart : (a y z v x u : ℕ) → y < 16 → z < 2 → v < 16 → x < 2 → u < 16
    → section_of true (a * 16384 + y * 1024 + z * 512 + v * 32 + x * 16 + u) ≡ a * 4 + z * 2 + x
section_apart a y z v x u y-low z-low v-low x-low u-low =
    let i : ℕ = a * 16384 + y * 1024 + z * 512 + v * 32 + x * 16 + u in
    let one : i / 16384 ≡ a = omega arith in
    let two : i / 512 % 2 ≡ z = omega arith in
    let three : i / 16 % 2 ≡ x = omega arith in
    omega arith

pub place_apart : (a y z v x u : ℕ) → y < 16 → z < 2 → v < 16 → x < 2 → u < 16
    → place_of true (a * 16384 + y * 1024 + z * 512 + v * 32 + x * 16 + u) ≡ y * 256 + v * 16 + u
place_apart a y z v x u y-low z-low v-low x-low u-low =
    let i : ℕ = a * 16384 + y * 1024 + z * 512 + v * 32 + x * 16 + u in
    let one : i / 1024 % 16 ≡ y = omega arith in
    let two : i / 32 % 16 ≡ v = omega arith in
    let three : i % 16 ≡ u = omega arith in
    omega arith

-- a column, a layer and a row put together
index_in_digits : (column layer row : ℕ) → index_at 32 column layer row
    ≡ layer / 16 * 16384 + layer % 16 * 1024 + row / 16 % 2 * 512 + row % 16 * 32 + column / 16 % 2 * 16 + column % 16
index_in_digits column layer row =
    let x : column % 32 ≡ column / 16 % 2 * 16 + column % 16 = omega arith in
    let z : row % 32 ≡ row / 16 % 2 * 16 + row % 16 = omega arith in
    omega arith

pub wide_section : (column layer row : ℕ) → section_of true (index_at 32 column layer row) ≡ layer / 16 * 4 + row / 16 % 2 * 2 + column / 16 % 2
wide_section column layer row =
    ap (section_of true) (index_in_digits column layer row)
    ∙ section_apart (layer / 16) (layer % 16) (row / 16 % 2) (row % 16) (column / 16 % 2) (column % 16) (omega arith) (omega arith) (omega arith) (omega arith) (omega arith)

pub narrow_section : (column layer row : ℕ) → section_of false (index_at 16 column layer row) ≡ layer / 16
narrow_section column layer row = omega arith

pub place_is : (wide : Bool) (column layer row : ℕ) → place_of wide (index_at (columns_of wide) column layer row) ≡ layer % 16 * 256 + row % 16 * 16 + column % 16
place_is true column layer row =
    ap (place_of true) (index_in_digits column layer row)
    ∙ place_apart (layer / 16) (layer % 16) (row / 16 % 2) (row % 16) (column / 16 % 2) (column % 16) (omega arith) (omega arith) (omega arith) (omega arith) (omega arith)
place_is false column layer row = omega arith

-- a layer of a sector
pub layer_within : (wide high : Bool) (layer : ℕ) → columns_of wide * columns_of wide * (layer + 1) ≤ 4096 * section_count wide high → layer < 128
layer_within true true layer low = omega arith
layer_within true false layer low = omega arith
layer_within false true layer low = omega arith
layer_within false false layer low = omega arith

pub index_within : (wide high : Bool) (column layer row : ℕ) → columns_of wide * columns_of wide * (layer + 1) ≤ 4096 * section_count wide high
    → index_at (columns_of wide) column layer row < 4096 * section_count wide high
index_within true true column layer row low = omega arith
index_within true false column layer row low = omega arith
index_within false true column layer row low = omega arith
index_within false false column layer row low = omega arith

pub side_is : (wide high : Bool) → side_of (4096 * section_count wide high) ≡ columns_of wide
side_is true true = refl
side_is true false = refl
side_is false true = refl
side_is false false = refl
