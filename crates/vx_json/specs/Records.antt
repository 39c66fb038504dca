-- The record of a world as lines of JSON: one for each recorded call and each fate.
use Rattle.std.specs.Prelude.{ℕ, ◌+◌, codes, decimal, List, [], ◌∷◌, ◌++◌, length}
use Rattle.std.specs.List.{flat_map}
use Rattle.vx_geom.specs.declared.pos.Pos.{Pos}
use Rattle.vx_tick.specs.declared.fate.Fate.{Fate}
use Rattle.vx_sector.specs.SectorData.{EntryData}
use Rattle.vx_record.specs.Chronicles.{TickData, ChronicleData}
use Rattle.vx_json.specs.Commands.{cmd_text}
use Rattle.vx_json.specs.Texts.{line_text, answer_text, fate_text}

-- a call as an object of JSON, its texts being plain
abbrev pub call_json : List ℕ → List ℕ → List ℕ → ℕ → ℕ → List ℕ
call_json cmd player reply sector tick =
    codes "{\"cmd\":\"" ++ cmd ++ codes "\",\"player\":\"" ++ player
    ++ codes "\",\"reply\":\"" ++ reply ++ codes "\",\"sector\":" ++ decimal sector
    ++ codes ",\"tick\":" ++ decimal tick ++ codes "}"

-- a fate as an object of JSON, its text being plain
abbrev pub fate_json : List ℕ → ℕ → List ℕ
fate_json fate tick =
    codes "{\"fate\":\"" ++ fate ++ codes "\",\"tick\":" ++ decimal tick ++ codes "}"

-- a recorded call of a tick and a sector, by their numbers
abbrev pub call_line : ℕ → ℕ → EntryData → List ℕ
call_line tick sector entry =
    line_text (call_json (cmd_text entry.cmd) entry.seat.name (answer_text entry.answer) sector tick)

-- a fate of a tick, beside the position of its piston
abbrev pub fate_line : ℕ → Pos × Fate → List ℕ
fate_line tick told = line_text (fate_json (fate_text told.0 told.1) tick)

-- the calls in the windows of a tick, sector by sector, the first of which has this number
abbrev pub calls_text : ℕ → ℕ → List (List EntryData) → List ℕ
calls_text tick sector [] = []
calls_text tick sector (window ∷ windows) =
    flat_map (call_line tick sector) window ++ calls_text tick (sector + 1) windows

-- a tick: its calls, and then its fates
abbrev pub tick_text : TickData → List ℕ
tick_text tick =
    calls_text tick.number 0 tick.windows ++ flat_map (fate_line tick.number) tick.fates

-- the record of a world: its ticks, and then the open windows, under the number of the tick that
-- would close them
abbrev pub record_text : ChronicleData → List (List EntryData) → List ℕ
record_text chronicle windows =
    flat_map tick_text chronicle.ticks ++ calls_text (length chronicle.ticks + 1) 0 windows
