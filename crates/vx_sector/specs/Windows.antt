use Rattle.std.specs.Prelude.{◌≡◌, ℕ, ◌+◌, ◌≤◌, Bool, true, false, not, nat_le, if◌then◌else◌, List, [], ◌∷◌, ◌++◌, length, Result, Ok, Err}
use Rattle.vx_sector.specs.declared.sector.TheConstants.{MAX_ENTRIES}
use Rattle.vx_block.specs.declared.cell.Cell.{Cell}
use Rattle.vx_cells.specs.SectorCells.{SectorCells, holds, with_cell}
use Rattle.vx_geom.specs.declared.pos.Pos.{Pos}
use Rattle.vx_region.specs.Regions.{Regions}
use Rattle.vx_sector.specs.Acting.{rules_answer, cells_by}
use Rattle.vx_sector.specs.Commands.{place_of}
use Rattle.vx_sector.specs.SectorData.{SectorData, SeatData, EntryData, FreshData, WindowData}
use Rattle.vx_sector.specs.declared.cmd.Cmd.{Cmd}
use Rattle.vx_sector.specs.declared.reply.Reply.{Reply}
use Rattle.vx_sector.specs.declared.refusal.Refusal.{Refusal}
use Rattle.vx_sector.specs.declared.refusal.Refusal.TheVariants.{OutOfWorld, HistoryFull, NoMemory}

-- the cells after the entries of a window
abbrev pub cells_after : SectorCells → List EntryData → SectorCells
cells_after c [] = c
cells_after c (entry ∷ entries) = cells_after (cells_by c entry.cmd entry.answer) entries

-- these entries are a window over the cells: each is of a position of the sector, and its answer is
-- the one that the rules give on the cells that the entries before it leave
abbrev pub IsWindow : Regions → SectorCells → List EntryData → Type 0
IsWindow regions c [] = Unit {0}
IsWindow regions c (entry ∷ entries) =
    (holds c (place_of entry.cmd) ≡ true)
    × (entry.answer ≡ rules_answer regions c entry.seat entry.cmd)
    × IsWindow regions (cells_by c entry.cmd entry.answer) entries

-- the cells hold the place of each entry
abbrev pub HoldsPlaces : SectorCells → List EntryData → Type 0
HoldsPlaces c [] = Unit {0}
HoldsPlaces c (entry ∷ entries) = (holds c (place_of entry.cmd) ≡ true) × HoldsPlaces c entries

-- how many entries a sector records
abbrev pub most_entries : ℕ
most_entries = MAX_ENTRIES

-- how many entries were recorded, in closed windows too
abbrev pub count_of : SectorData → ℕ
count_of s = length s.entries + s.closed

-- as many entries were recorded as may be
unfoldable pub is_full : SectorData → Bool
is_full s = nat_le most_entries (count_of s)

-- what a sector is at every moment: its entries are a window over the cells with which that began,
-- by the version of the window, and its cells are what they leave
pub record IsSector (s : SectorData) : Type 0 where
  pub window : IsWindow s.version.policy s.base s.entries
  pub cells : s.cells ≡ cells_after s.base s.entries
  pub most : count_of s ≤ most_entries

-- the answer of a sector to a command of a seat
unfoldable pub answer_of : SectorData → SeatData → Cmd → Result Reply Refusal
answer_of s seat cmd =
    if not (holds s.cells (place_of cmd)) then Err OutOfWorld
    else if is_full s then Err HistoryFull
    else rules_answer s.version.policy s.cells seat cmd

-- the command with its answer at the end of the record, and what it does done
abbrev pub recorded : SectorData → EntryData → SectorData
recorded s entry = record s {
  cells = cells_by s.cells entry.cmd entry.answer;
  entries = s.entries ++ entry ∷ [];
}

-- a refusal leaves no trace where the position is not of the sector, where the record is full, or
-- where memory was wanting
abbrev pub leaves_trace : Refusal → Bool
leaves_trace OutOfWorld = false
leaves_trace HistoryFull = false
leaves_trace NoMemory = false
leaves_trace _ = true

-- an answer is recorded, but for a refusal that leaves no trace
abbrev pub is_recorded : Result Reply Refusal → Bool
is_recorded (Ok reply) = true
is_recorded (Err refusal) = leaves_trace refusal

-- the answer, where its reply is handed out together with a copy
abbrev pub told : Result (Reply × Reply) Refusal → Result Reply Refusal
told (Ok replies) = Ok replies.0
told (Err refusal) = Err refusal

-- the sector after a command and its answer
unfoldable pub sector_after : SectorData → SeatData → Cmd → Result Reply Refusal → SectorData
sector_after s seat cmd answer =
    if is_recorded answer
    then recorded s (record { seat = seat; cmd = cmd; answer = answer })
    else s

-- a window after a command and its answer
abbrev pub window_after : WindowData → SeatData → Cmd → Result Reply Refusal → WindowData
window_after w seat cmd answer =
    if is_recorded answer
    then record w {
      cells = cells_by w.cells cmd answer;
      entries = w.entries ++ record { seat = seat; cmd = cmd; answer = answer } ∷ [];
    }
    else w

-- the sector as a window begins in it, with nothing recorded yet
abbrev pub first_window : FreshData → SectorData
first_window fresh = record {
  base = fresh.cells;
  cells = fresh.cells;
  version = fresh.version;
  entries = [];
  closed = 0;
}

-- the sector as its next window begins
unfoldable pub renewed : SectorData → FreshData → SectorData
renewed s fresh = record (first_window fresh) { closed = count_of s }

-- the sector with a cell put down as its window begins
abbrev pub put_in : SectorData → Pos → Cell → SectorData
put_in s p cell = record s { base = with_cell s.cells p cell; cells = with_cell s.cells p cell }

-- a part may be put down in base and cells where the position is of the sector, and nothing is
-- recorded in its window
pub record CanTamper (s : SectorData) (p : Pos) : Type 0 where
  pub held : holds s.cells p ≡ true
  pub nothing : s.entries ≡ []
