-- The bytes of a sector over its sections, in the order of their indices.
use Rattle.std.specs.Prelude.{◌≡◌, ℕ, ◌+◌, ◌*◌, ◌/◌, ◌%◌, ◌<◌, Bool, nat_lt, List, [], length, map, slice_index_or, if◌then◌else◌}
use Rattle.std.specs.List.{range_with_len}
use Rattle.vx_section.specs.Forms.{SectionData}
use Rattle.vx_section.specs.declared.sections.TheConstants.{MOST_SECTIONS}

-- the section of an index, where a sector has 16 columns a side, or 32
abbrev pub section_of : Bool → ℕ → ℕ
section_of wide i = if wide then i / 16384 * 4 + i / 512 % 2 * 2 + i / 16 % 2 else i / 4096

-- the place in it
abbrev pub place_of : Bool → ℕ → ℕ
place_of wide i = if wide then i / 1024 % 16 * 256 + i / 32 % 16 * 16 + i % 16 else i % 4096

-- how many sections a sector has, of 16 cells each way: 4 side by side where it has 32 columns a
-- side, and 8 above one another where it is 128 cells high
abbrev pub section_count : Bool → Bool → ℕ
section_count wide high = (if wide then 4 else 1) * (if high then 8 else 4)

-- how many columns a side has, where there are 16, or 32
abbrev pub columns_of : Bool → ℕ
columns_of wide = if wide then 32 else 16

-- how many columns a side a sector of so many bytes has: with 16 it has at most 32,768 bytes, and
-- with 32 at least twice as many
abbrev pub side_of : ℕ → ℕ
side_of bytes = if nat_lt 32768 bytes then 32 else 16

-- the index of a column, a layer and a row, of columns and rows that are counted on over sides
abbrev pub index_at : ℕ → ℕ → ℕ → ℕ → ℕ
index_at side column layer row = column % side + side * (row % side + side * layer)

-- no section
abbrev pub nothing : SectionData
nothing = record { bytes = []; form = 0; palette = [] }

-- the byte of an index
unfoldable pub byte_at : Bool → List SectionData → ℕ → ℕ
byte_at wide sections i =
    slice_index_or (slice_index_or sections (section_of wide i) nothing).bytes (place_of wide i) 0

-- the bytes in the order of their indices
unfoldable pub bytes_of : Bool → Bool → List SectionData → List ℕ
bytes_of wide high sections =
    map (byte_at wide sections) (range_with_len 0 (4096 * section_count wide high))

-- as many sections as the largest sector has, with a byte at each place; a sector has the first
-- section_count of them
pub record AreSections (sections : List SectionData) : Type 0 where
  pub count : length sections ≡ MOST_SECTIONS
  pub long : (k : ℕ) → k < MOST_SECTIONS → length (slice_index_or sections k nothing).bytes ≡ 4096

-- so many sections with the same bytes, one by one
abbrev pub AreSame : ℕ → List SectionData → List SectionData → Type 0
AreSame count ss ts = (k : ℕ) → k < count
    → (slice_index_or ss k nothing).bytes ≡ (slice_index_or ts k nothing).bytes
