-- What is left of the calls of each seat behind entries of the record.
use Rattle.std.specs.Prelude.{◌≡◌, ◌≢◌, ℕ, ◌+◌, ◌<◌, List, [], ◌++◌, length, map, slice_index_or}
use Rattle.vx_sector.specs.SectorData.{EntryData}
use Rattle.vx_record.specs.Said.{calls_of}
use Rattle.vx_record.specs.declared.call.Call.{Call}
use Rattle.vx_record.specs.declared.call_table.CallTable.{CallTable}

-- the lists of calls in a table
abbrev pub lists_in : CallTable → List (List Call)
lists_in table = map (λ calls. calls.now) table.calls

-- the calls of each of so many seats are those among the entries, and then those that are left
abbrev pub AreBehind : ℕ → List (List Call) → List EntryData → List (List Call) → Type 0
AreBehind seats calls entries rests = (seat : ℕ) → seat < seats
    → slice_index_or calls seat [] ≡ calls_of seat entries ++ slice_index_or rests seat []

-- the calls of one of so many seats don't begin with those among the entries
pub record IsAstray (seats : ℕ) (calls : List (List Call)) (entries : List EntryData) (seat : ℕ)
    : Type 0 where
  pub below : seat < seats
  pub differs : (more : List Call)
      → slice_index_or calls seat [] ≢ calls_of seat entries ++ more

-- of each sector from that number on which has a table, the calls of the seats are those among its
-- entries, and then those that are left
abbrev pub AreAllBehind : ℕ → ℕ → List (List (List Call)) → (ℕ → List EntryData)
    → List (List (List Call)) → Type 0
AreAllBehind seats first tables entries rests = (at : ℕ) → at < length tables
    → AreBehind seats (slice_index_or tables at []) (entries (first + at))
    (slice_index_or rests at [])

-- in the table of that place, the calls of a seat don't begin with those among its sector's entries
pub record IsAstrayAt (seats first : ℕ) (tables : List (List (List Call)))
    (entries : ℕ → List EntryData) (seat at : ℕ) : Type 0 where
  pub there : at < length tables
  pub astray : IsAstray seats (slice_index_or tables at []) (entries (first + at)) seat

-- the calls of each of so many seats are those among the entries
abbrev pub AreSaid : ℕ → List (List Call) → List EntryData → Type 0
AreSaid seats calls entries =
    (seat : ℕ) → seat < seats → slice_index_or calls seat [] ≡ calls_of seat entries

-- the calls of one of so many seats are not
pub record IsUnsaid (seats : ℕ) (calls : List (List Call)) (entries : List EntryData) (seat : ℕ)
    : Type 0 where
  pub below : seat < seats
  pub differs : slice_index_or calls seat [] ≢ calls_of seat entries

-- of each sector from that number on which has a table, the calls of the seats are those among its
-- entries
abbrev pub AreAllSaid : ℕ → ℕ → List (List (List Call)) → (ℕ → List EntryData) → Type 0
AreAllSaid seats first tables entries = (at : ℕ) → at < length tables
    → AreSaid seats (slice_index_or tables at []) (entries (first + at))

-- in the table of that place, the calls of a seat are not those among its sector's entries
pub record IsUnsaidAt (seats first : ℕ) (tables : List (List (List Call)))
    (entries : ℕ → List EntryData) (seat at : ℕ) : Type 0 where
  pub there : at < length tables
  pub unsaid : IsUnsaid seats (slice_index_or tables at []) (entries (first + at)) seat
