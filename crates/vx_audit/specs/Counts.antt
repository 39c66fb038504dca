-- How many calls of each seat were made in each sector, where several players made them at once.
use Rattle.std.specs.Prelude.{◌≡◌, ℕ, ◌+◌, ◌++◌, if◌then◌else◌, Bool, ◌&&◌, nat_eq, List, [], ◌∷◌, filter, length, map, slice_index, slice_index_or, Option, Some}
use Rattle.vx_sector.specs.SectorData.{EntryData}
use Rattle.vx_record.specs.Said.{is_by}
use Rattle.vx_audit.specs.Deeds.{same_number}
use Rattle.vx_audit.specs.declared.mark.Mark.{Mark}
use Rattle.vx_audit.specs.declared.mark.Mark.TheVariants as mark

-- of a call: the number of its seat, and that of the sector that it speaks of
abbrev pub SpotData : Type 0
SpotData = ℕ × Option ℕ

abbrev pub call_mark : SpotData → Mark
call_mark spot = mark.Call spot.0 spot.1

-- it is of that seat in sector k
abbrev pub is_spot : ℕ → ℕ → SpotData → Bool
is_spot seat k spot = nat_eq spot.0 seat && same_number spot.1 (Some k)

-- in a table that has a row for each sector, the count of a seat
abbrev pub count_at : List (List ℕ) → ℕ → ℕ → ℕ
count_at counts k seat = slice_index (slice_index_or counts k []) seat

-- so many of these calls are of each seat in each sector
abbrev pub AreCounted : List SpotData → List (List ℕ) → Type 0
AreCounted spots counts = (seat k : ℕ)
    → count_at counts k seat ≡ length (filter (is_spot seat k) spots)

-- of that call there is one more, and of the others there are as many
abbrev pub IsOneMore : List (List ℕ) → SpotData → List (List ℕ) → Type 0
IsOneMore counts spot more = (seat k : ℕ)
    → count_at more k seat ≡ (if is_spot seat k spot then 1 else 0) + count_at counts k seat

-- in a row there is one less of that seat, and of the others there are as many
abbrev pub IsOneLess : List ℕ → ℕ → List ℕ → Type 0
IsOneLess due number fewer = (seat : ℕ)
    → slice_index due seat ≡ (if nat_eq number seat then 1 else 0) + slice_index fewer seat

-- none is left in a row
abbrev pub AreNone : List ℕ → Type 0
AreNone due = (seat : ℕ) → slice_index due seat ≡ 0

-- the marks up to the end of their block are calls, counted in the table
pub record IsCounted (marks : List Mark) (counts : List (List ℕ)) (others : List Mark) : Type 0 where
  pub spots : List SpotData
  pub parts : marks ≡ map call_mark spots ++ mark.End ∷ others
  pub counted : AreCounted spots counts

-- what is left of a window has a front with so many entries of each seat, and this is the rest
pub record IsAfter (due : List ℕ) (left rest : List EntryData) : Type 0 where
  pub front : List EntryData
  pub parts : left ≡ front ++ rest
  pub counts : (seat : ℕ) → length (filter (is_by seat) front) ≡ slice_index due seat

-- so has each sector's window
abbrev pub AreAfter : List (List ℕ) → List (List EntryData) → List (List EntryData) → Type 0
AreAfter counts lefts rests = (k : ℕ) → IsAfter (slice_index_or counts k [])
    (slice_index_or lefts k []) (slice_index_or rests k [])
