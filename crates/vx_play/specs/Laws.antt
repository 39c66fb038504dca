use Rattle.std.specs.Prelude.{◌≡◌, ◌≢◌, ◌↔◌, ℕ, ◌+◌, false, List, [], ◌∷◌, ◌++◌, map, Some, Err}
use Rattle.std.specs.List.{All}
use Rattle.vx_geom.specs.Sizes.{is_inside}
use Rattle.vx_region.specs.Regions.{Regions}
use Rattle.vx_flag.specs.declared.action.Action.{Action}
use Rattle.vx_decide.specs.declared.rule.Rule.{Rule}
use Rattle.vx_decide.specs.declared.verdict.Verdict.TheVariants.{Deny}
use Rattle.vx_policy.specs.Edits.{after}
use Rattle.vx_sector.specs.Acting.{judged}
use Rattle.vx_sector.specs.Commands.{place_of, action_of}
use Rattle.vx_sector.specs.SectorData.{SeatData}
use Rattle.vx_sector.specs.Windows.{IsSector}
use Rattle.vx_sector.specs.declared.cmd.Cmd.{Cmd}
use Rattle.vx_sector.specs.declared.refusal.Refusal.TheVariants.{OutOfWorld, HistoryFull, Denied}
use Rattle.vx_cells.specs.Maps.{MapData}
use Rattle.vx_cells.specs.MapLaws.{IsFilled}
use Rattle.vx_cells.specs.Wholes.{IsMap}
use Rattle.vx_tick.specs.Pairing.{IsPaired}
use Rattle.vx_tick.specs.Ticks.{IsTick}
use Rattle.vx_play.specs.Plays.{PlayData, IsWorld, opened, answered, map_of, next_map, next_fates, ticked}
use Rattle.vx_play.specs.Games.{Step, Tick, game, edits_of, ticks_of, version_after, AreJudgedBy}
use Rattle.vx_windows.specs.Sectors.{base_of}

-- the world that is made of a terrain has each sector in its place
abbrev pub WorldsBeginWhole : Type 0
WorldsBeginWhole = (rs : Regions) (terrain : MapData) (names : List (List ℕ))
    → IsMap terrain → IsWorld (opened rs terrain names)

-- a command keeps each sector in its place
abbrev pub CommandsKeepWorlds : Type 0
CommandsKeepWorlds = (play : PlayData) (seat : SeatData) (cmd : Cmd)
    → IsWorld play → IsWorld (record play { sectors = (answered play seat cmd).1 })

-- and so does a tick
abbrev pub TicksKeepWorlds : Type 0
TicksKeepWorlds = (play : PlayData) → IsWorld play → IsWorld (ticked play)

-- so in every game each sector stands in its place
abbrev pub GamesStayWhole : Type 0
GamesStayWhole = (rs : Regions) (terrain : MapData) (names : List (List ℕ))
    (steps : List Step) → IsMap terrain → IsWorld (game rs terrain names steps)

-- a command is out of the world exactly where its position is outside
abbrev pub OutOfWorldIsOutside : Type 0
OutOfWorldIsOutside = (play : PlayData) (seat : SeatData) (cmd : Cmd) → IsWorld play
    → ((answered play seat cmd).0 ≡ Err OutOfWorld) ↔ (is_inside play.sizes (place_of cmd) ≡ false)

-- a tick makes of a world what the rules of ticks make of its map by the version that judged the
-- window before, and these are its fates
abbrev pub TicksAreSteps : Type 0
TicksAreSteps = (play : PlayData) → IsWorld play
    → IsTick play.version.policy (map_of play) (map_of (ticked play)) (next_fates play)

-- before the first tick no edit counts: each sector judges by the policy of the opening
abbrev pub NoEditCountsBeforeATick : Type 0
NoEditCountsBeforeATick = (rs : Regions) (terrain : MapData) (names : List (List ℕ))
    (steps : List Step) → ticks_of steps ≡ 0
    → AreJudgedBy (version_after rs [] 0) (game rs terrain names steps)

-- after a tick each sector judges, until the next one, by the policy after the edits that were
-- accepted before that tick, and no later ones
abbrev pub EditsCountFromTheNextTick : Type 0
EditsCountFromTheNextTick = (rs : Regions) (terrain : MapData) (names : List (List ℕ))
    (before since : List Step) → ticks_of since ≡ 0
    → AreJudgedBy (version_after rs (edits_of before) (ticks_of before + 1))
    (game rs terrain names (before ++ Tick ∷ since))

-- the command is answered by a sector that has room in its record
abbrev pub IsJudged : PlayData → SeatData → Cmd → Type 0
IsJudged play seat cmd =
    ((answered play seat cmd).0 ≢ Err OutOfWorld) × ((answered play seat cmd).0 ≢ Err HistoryFull)

-- a command is denied by a rule exactly where this policy denies its action by that rule
abbrev pub IsDeniedBy : Regions → PlayData → SeatData → Cmd → Type 0
IsDeniedBy policy play seat cmd = (rule : Rule)
    → ((answered play seat cmd).0 ≡ Err (Denied rule))
    ↔ ((action : Action) × (action_of cmd ≡ Some action)
    × (judged policy seat action (place_of cmd) ≡ Deny rule))

-- so a command is denied by the policy of the opening, before the first tick
abbrev pub DeniedByTheOpening : Type 0
DeniedByTheOpening = (rs : Regions) (terrain : MapData) (names : List (List ℕ))
    (steps : List Step) (seat : SeatData) (cmd : Cmd) → ticks_of steps ≡ 0
    → let play = game rs terrain names steps in
    IsJudged play seat cmd → IsDeniedBy rs play seat cmd

-- and then by the policy after the edits that were accepted before the last tick
abbrev pub DeniedByTheLastTick : Type 0
DeniedByTheLastTick = (rs : Regions) (terrain : MapData) (names : List (List ℕ))
    (before since : List Step) (seat : SeatData) (cmd : Cmd) → ticks_of since ≡ 0
    → let play = game rs terrain names (before ++ Tick ∷ since) in
    IsJudged play seat cmd → IsDeniedBy (after rs (edits_of before)) play seat cmd

-- a game has as many ticks as its steps, and the edits among them, in their order
abbrev pub StepsAreCounted : Type 0
StepsAreCounted = (rs : Regions) (terrain : MapData) (names : List (List ℕ))
    (steps : List Step) → let play = game rs terrain names steps in
    (play.ticks ≡ ticks_of steps) × (play.accepted ≡ edits_of steps)

-- in every game the record of each sector is a window over the cells with which that began, and
-- its cells are what the entries leave
abbrev pub RecordsAreWindows : Type 0
RecordsAreWindows = (rs : Regions) (terrain : MapData) (names : List (List ℕ))
    (steps : List Step) → All IsSector (game rs terrain names steps).sectors

-- before the first tick, each window began with the cells of the terrain
abbrev pub FirstWindowsBeginWithTheTerrain : Type 0
FirstWindowsBeginWithTheTerrain = (rs : Regions) (terrain : MapData)
    (names : List (List ℕ)) (steps : List Step) → ticks_of steps ≡ 0
    → map base_of (game rs terrain names steps).sectors ≡ terrain.sectors

-- after a tick, and until the next one, it began with the cells that the tick made
abbrev pub WindowsBeginWithTheTick : Type 0
WindowsBeginWithTheTick = (rs : Regions) (terrain : MapData) (names : List (List ℕ))
    (before since : List Step) → IsMap terrain → ticks_of since ≡ 0
    → map base_of (game rs terrain names (before ++ Tick ∷ since)).sectors
    ≡ (next_map (game rs terrain names before)).sectors

-- in every game something stands at each place, and each chest has its slots, where that is so of
-- the terrain
abbrev pub GamesStayFilled : Type 0
GamesStayFilled = (rs : Regions) (terrain : MapData) (names : List (List ℕ))
    (steps : List Step) → IsFilled terrain → IsFilled (map_of (game rs terrain names steps))

-- and each piston that is out has its head before it, and each head its piston behind it, where
-- that is so of the terrain
abbrev pub GamesStayPaired : Type 0
GamesStayPaired = (rs : Regions) (terrain : MapData) (names : List (List ℕ))
    (steps : List Step) → IsFilled terrain → IsPaired terrain
    → IsPaired (map_of (game rs terrain names steps))
