use Rattle.std.specs.Prelude.{◌≡◌, ℕ, List, [], Result}
use Rattle.vx_cells.specs.SectorCells.{SectorCells}
use Rattle.vx_policy.specs.declared.version.Version.{Version}
use Rattle.vx_sector.specs.declared.cmd.Cmd.{Cmd}
use Rattle.vx_sector.specs.declared.reply.Reply.{Reply}
use Rattle.vx_sector.specs.declared.refusal.Refusal.{Refusal}
use Rattle.vx_sector.specs.declared.seat.Seat.{Seat}
use Rattle.vx_sector.specs.declared.entry.Entry.{Entry}

-- a seat: its number and its player's name
pub record SeatData : Type 0 where
  pub number : ℕ
  pub name : List ℕ

-- a recorded call: who made it, what it was, and what was answered
pub record EntryData : Type 0 where
  pub seat : SeatData
  pub cmd : Cmd
  pub answer : Result Reply Refusal

-- a window: the cells as it began and as they are, the version that judges its commands, and their
-- record
pub record WindowData : Type 0 where
  pub base : SectorCells
  pub cells : SectorCells
  pub version : Version
  pub entries : List EntryData

-- what a window begins with: the cells, and the version that judges its commands
pub record FreshData : Type 0 where
  pub cells : SectorCells
  pub version : Version

-- a sector: the cells as its window began and as they are, the version that judges the commands of
-- the window, their record, and how many were recorded in the windows before
pub record SectorData : Type 0 where
  pub base : SectorCells
  pub cells : SectorCells
  pub version : Version
  pub entries : List EntryData
  pub closed : ℕ

-- what a seat is
abbrev pub seat_of : Seat → SeatData
seat_of seat = record { number = seat.number; name = seat.name.text.bytes }

-- what an entry of the record says
abbrev pub entry_of : Entry → EntryData
entry_of entry = record { seat = seat_of entry.seat; cmd = entry.cmd; answer = entry.answer }

-- a sector by its window, and how many commands were recorded in the windows before
abbrev pub sector_of : WindowData → ℕ → SectorData
sector_of window closed = record {
  base = window.base;
  cells = window.cells;
  version = window.version;
  entries = window.entries;
  closed = closed;
}

-- what a window begins with
abbrev pub fresh_of : WindowData → FreshData
fresh_of window = record { cells = window.cells; version = window.version }

-- nothing is recorded in the window, and so its cells are those with which it began
pub record IsFresh (window : WindowData) : Type 0 where
  pub same : window.base ≡ window.cells
  pub none : window.entries ≡ []
