-- What the record of a world says of a player.
use Rattle.std.specs.Prelude.{ℕ, Bool, nat_eq, unwrap_or, List, [], ◌∷◌, ◌++◌, map, filter, slice_get}
use Rattle.vx_sector.specs.SectorData.{EntryData}
use Rattle.vx_record.specs.Chronicles.{TickData}
use Rattle.vx_record.specs.Calls.{call_in}
use Rattle.vx_record.specs.declared.call.Call.{Call}

-- the entry was made from the seat of that number
abbrev pub is_by : ℕ → EntryData → Bool
is_by seat entry = nat_eq entry.seat.number seat

-- the calls of a seat among the entries of a window
abbrev pub calls_of : ℕ → List EntryData → List Call
calls_of seat entries = map call_in (filter (is_by seat) entries)

-- the entries of sector k in a tick's windows
abbrev pub window_at : ℕ → TickData → List EntryData
window_at k tick = unwrap_or (slice_get tick.windows k) []

-- the entries of sector k in the windows of ticks, one tick after another
abbrev pub closed_at : ℕ → List TickData → List EntryData
closed_at k [] = []
closed_at k (tick ∷ ticks) = window_at k tick ++ closed_at k ticks

-- what the record says of a seat in sector k: its calls in the closed windows of these ticks, and
-- then in the open one
abbrev pub said_of : ℕ → ℕ → List TickData → List EntryData → List Call
said_of seat k ticks window = calls_of seat (closed_at k ticks ++ window)
