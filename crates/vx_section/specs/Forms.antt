-- The 4,096 bytes of a section, in one of three forms.
use Rattle.std.specs.Prelude.{◌≡◌, ℕ, ◌/◌, ◌%◌, ◌<◌, ◌≤◌, Bool, false, nat_eq, nat_lt, ◌||◌, ◌&&◌, List, [], ◌∷◌, ◌++◌, length, replicate, slice_index_or, slice_set, if◌then◌else◌}
use Rattle.std.specs.List.{AllByRecursion, list_any}

-- what stands at each place; the form, 1, 2 or 3; and the palette in the forms that have one: the
-- one byte, or all that were ever put down
pub record SectionData : Type 0 where
  pub bytes : List ℕ
  pub form : ℕ
  pub palette : List ℕ

-- the section has a byte each, or that byte in its palette, and so keeps its form when it is put
-- down
abbrev pub admits : SectionData → ℕ → Bool
admits s byte = nat_eq s.form 3 || list_any (nat_eq byte) s.palette

-- the section in a form in which that byte can be put down: with one byte more in the palette, and
-- at a seventeenth with a byte each
abbrev pub admitted : SectionData → ℕ → SectionData
admitted s byte = if admits s byte then s
    else if nat_lt (length s.palette) 16
    then record { bytes = s.bytes; form = 2; palette = s.palette ++ byte ∷ [] }
    else record { bytes = s.bytes; form = 3; palette = [] }

-- the same with that byte at a place
abbrev pub with_byte : SectionData → ℕ → ℕ → SectionData
with_byte s place byte = record s { bytes = slice_set s.bytes place byte }

-- that byte is not in the palette, and does not fit there
pub record IsFull (s : SectionData) (byte : ℕ) : Type 0 where
  pub lacking : admits s byte ≡ false
  pub roomless : (nat_eq s.form 2 && nat_lt (length s.palette) 16) ≡ false

-- so many times the same
unfoldable pub filled : ℕ → ℕ → List ℕ
filled n byte = replicate n byte

-- a section with that byte at each place
abbrev pub fresh : ℕ → SectionData
fresh byte = record { bytes = filled 4096 byte; form = 1; palette = byte ∷ [] }

-- the byte of a number of the palette
abbrev pub kind_at : List ℕ → ℕ → ℕ
kind_at palette n = slice_index_or palette n 0

-- the bytes of numbers, two to a byte, the low four bits first
abbrev pub unpacked : List ℕ → List ℕ → List ℕ
unpacked palette [] = []
unpacked palette (pair ∷ pairs) =
    kind_at palette (pair % 16) ∷ kind_at palette (pair / 16) ∷ unpacked palette pairs

-- both numbers of a pair are below a count
abbrev pub IsPair : ℕ → ℕ → Type 0
IsPair count pair = (pair % 16 < count) × (pair / 16 < count)

-- up to sixteen different bytes, and the number of one for each place
pub record IsFew (palette pairs : List ℕ) (used : ℕ) : Type 0 where
  pub kinds : length palette ≡ 16
  pub some : 1 ≤ used
  pub most : used ≤ 16
  pub whole : length pairs ≡ 2048
  pub numbers : AllByRecursion (IsPair used) pairs
