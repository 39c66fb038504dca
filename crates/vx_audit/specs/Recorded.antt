-- What a game puts on record while deeds are done in it.
use Rattle.std.specs.Prelude.{◌≡◌, ◌+◌, ◌++◌, List, [], ◌∷◌, map}
use Rattle.vx_geom.specs.declared.pos.Pos.{Pos}
use Rattle.vx_tick.specs.declared.fate.Fate.{Fate}
use Rattle.vx_windows.specs.Sectors.{entries_of}
use Rattle.vx_record.specs.Chronicles.{TickData}
use Rattle.vx_play.specs.Plays.{PlayData}
use Rattle.vx_audit.specs.Deeds.{DeedData, Called, Together, Edited, Ticked, Does, AreInOrder}

-- the tick that a game records next, with these fates: its number, the version that judges it and
-- the commands before it, and what each sector has recorded in its window
abbrev pub tick_of : PlayData → List (Pos × Fate) → TickData
tick_of play fates = record {
  number = play.ticks + 1;
  version = play.version;
  windows = map entries_of play.sectors;
  fates = fates;
}

-- the ticks that a deed puts on record: one where it is a tick, else none
abbrev pub ticks_by : PlayData → DeedData → List TickData
ticks_by play (Called call) = []
ticks_by play (Together calls) = []
ticks_by play (Edited edit) = []
ticks_by play (Ticked fates) = tick_of play fates ∷ []

-- deeds, one after another, lead from a game to another, what was told of each is what the game
-- gives then, and these are the ticks that it records on the way
abbrev pub IsRecorded : PlayData → List DeedData → List TickData → PlayData → Type 0
IsRecorded play [] ticks last = (ticks ≡ []) × (last ≡ play)
IsRecorded play (deed ∷ deeds) ticks last =
    (next : PlayData) × (rest : List TickData) × Does play deed next
    × (ticks ≡ ticks_by play deed ++ rest) × IsRecorded next deeds rest last

-- a game with blocks records what one without records: each block stands for its calls in an order
-- that keeps that of each seat in each sector
abbrev pub BlocksRecordInOrder : Type 0
BlocksRecordInOrder = (play : PlayData) (deeds : List DeedData) (ticks : List TickData)
    (last : PlayData) → IsRecorded play deeds ticks last
    → (plain : List DeedData) × AreInOrder play.sizes deeds plain × IsRecorded play plain ticks last
