-- The core machine: the world at play, where each of its sectors is, and the ticks so far.
use Rattle.std.specs.Prelude.{ℕ, ◌+◌, Bool, true, false, not, ◌&&◌, nat_eq, nat_le, nat_lt, if◌then◌else◌, List, [], ◌∷◌, ◌++◌, length, map, replicate, slice_get, slice_set, Option, Some, None, is_some}
use Rattle.std.specs.List.{list_all, list_any}
use Rattle.std.specs.Option.{is_none, option_map_or}
use Rattle.vx_board.specs.Accepted.{most_edits}
use Rattle.vx_policy.specs.Refusals.{refusal}
use Rattle.vx_policy.specs.Asked.{Asked}
use Rattle.vx_sector.specs.SectorData.{SeatData}
use Rattle.vx_sector.specs.declared.cmd.Cmd.{Cmd}
use Rattle.vx_tick.specs.declared.phase.Phase.{Phase}
use Rattle.vx_tick.specs.declared.phase.Phase.TheVariants.{Parts, Fates, Cells}
use Rattle.vx_play.specs.Games.{Step, Command, Accepted, Tick, after_step}
use Rattle.vx_play.specs.Plays.{PlayData, opened, sector_asked, policy_of, next_fates, seat_at}
use Rattle.vx_windows.specs.Sectors.{entries_of}
use Rattle.vx_windows.specs.Limits.{most_ticks}
use Rattle.vx_record.specs.Chronicles.{TickData, ChronicleData}
use Rattle.vx_core.specs.Events.{Happening, Acts, Edits, Takes, Works, Fixes, Puts}
use Rattle.vx_record.specs.Openings.{OpeningData}
use Rattle.vx_core.specs.declared.stage.Stage.{Stage}
use Rattle.vx_core.specs.declared.stage.Stage.TheVariants.{Home, Taken, Worked}

-- the world at play, the stage of each sector in order, whether the tick of the sectors that are
-- away is fixed, and the ticks so far
pub record MachineData : Type 0 where
  pub play : PlayData
  pub stages : List Stage
  pub is_fixed : Bool
  pub ticks : List TickData

-- the stages of a tick in their order
abbrev pub rank : Stage → ℕ
rank Home = 0
rank Taken = 1
rank (Worked Parts) = 2
rank (Worked Fates) = 3
rank (Worked Cells) = 4

-- a sector that is at the second stage is at the first
abbrev pub is_stage : Stage → Stage → Bool
is_stage stage of_sector = nat_eq (rank stage) (rank of_sector)

-- a sector that is at the second stage has reached the first
abbrev pub has_reached : Stage → Stage → Bool
has_reached stage of_sector = nat_le (rank stage) (rank of_sector)

-- the stage at which the work of a phase is due
abbrev pub due : Phase → Stage
due Parts = Taken
due Fates = Worked Parts
due Cells = Worked Fates

-- the sector of that number is at this stage
abbrev pub is_at : MachineData → ℕ → Stage → Bool
is_at m k stage = option_map_or (is_stage stage) (slice_get m.stages k) false

-- the sector of a position is at home
abbrev pub is_home : MachineData → Cmd → Bool
is_home m cmd = option_map_or (λ k. is_at m k Home) (sector_asked m.play cmd) false

-- no work of a tick is done
abbrev pub is_unworked : List Stage → Bool
is_unworked stages = list_all (λ s. not (has_reached (Worked Parts) s)) stages

-- all sectors have reached this stage
abbrev pub have_reached : Stage → List Stage → Bool
have_reached stage stages = list_all (has_reached stage) stages

-- some sector is away
abbrev pub is_any_away : List Stage → Bool
is_any_away stages = list_any (has_reached Taken) stages

-- nothing stands against an edit
abbrev pub is_accepted : PlayData → Asked → Bool
is_accepted play e =
    is_none (refusal (policy_of play) e) && nat_lt (length play.accepted) most_edits

-- an event may happen: a command, from a seat that is there, in a sector that is at home; an edit
-- that nothing stands against; taking a sector that is at home, while no work of this tick is done
-- and each sector of the tick before is back; work on a sector for which it is due, once all have
-- reached that stage; fixing, once, when all work is done; putting back what is away, once the tick
-- is fixed
abbrev pub is_enabled : MachineData → Happening → Bool
is_enabled m (Acts number cmd) = is_some (seat_at m.play number) && is_home m cmd
is_enabled m (Edits e) = is_accepted m.play e
is_enabled m (Takes k) =
    is_at m k Home && not m.is_fixed && is_unworked m.stages && nat_lt m.play.ticks most_ticks
is_enabled m (Works phase k) = is_at m k (due phase) && have_reached (due phase) m.stages
is_enabled m Fixes =
    not m.is_fixed && have_reached (Worked Cells) m.stages && nat_lt m.play.ticks most_ticks
is_enabled m (Puts k) = m.is_fixed && is_at m k (Worked Cells)

-- the machine with the world at play after a step
abbrev pub with_step : MachineData → Step → MachineData
with_step m step = record m { play = after_step m.play step }

-- and after a command, from a seat that is there
abbrev pub acted : MachineData → Cmd → Option SeatData → MachineData
acted m cmd None = m
acted m cmd (Some seat) = with_step m (Command seat cmd)

-- the machine with a sector at another stage
abbrev pub with_stage : MachineData → ℕ → Stage → MachineData
with_stage m k stage = record m { stages = slice_set m.stages k stage }

-- what the next tick is on record as
abbrev pub next_tick : PlayData → TickData
next_tick play = record {
  number = play.ticks + 1;
  version = play.version;
  windows = map entries_of play.sectors;
  fates = next_fates play;
}

-- the machine after its tick is fixed
abbrev pub fixed : MachineData → MachineData
fixed m = record (with_step m Tick) { is_fixed = true; ticks = m.ticks ++ next_tick m.play ∷ [] }

-- a tick ends as the last sector is put back
abbrev pub ended : MachineData → MachineData
ended m = record m { is_fixed = is_any_away m.stages }

-- what an event does where it may happen
abbrev pub done : MachineData → Happening → MachineData
done m (Acts number cmd) = acted m cmd (seat_at m.play number)
done m (Edits e) = with_step m (Accepted e)
done m (Takes k) = with_stage m k Taken
done m (Works phase k) = with_stage m k (Worked phase)
done m Fixes = fixed m
done m (Puts k) = ended (with_stage m k Home)

-- the machine after an event; one that may not happen changes nothing
unfoldable pub after_event : MachineData → Happening → MachineData
after_event m event = if is_enabled m event then done m event else m

-- the machine after events, one after another
abbrev pub after_events : MachineData → List Happening → MachineData
after_events m [] = m
after_events m (event ∷ events) = after_events (after_event m event) events

-- the machine as a world opens: all sectors at home
abbrev pub begun : OpeningData → MachineData
begun o = record {
  play = opened o.policy o.terrain o.names;
  stages = replicate (length o.terrain.sectors) Home;
  is_fixed = false;
  ticks = [];
}

-- the machine of an opening after events
abbrev pub run : OpeningData → List Happening → MachineData
run o events = after_events (begun o) events

-- the chronicle of an opening after events
abbrev pub chronicle_of : OpeningData → List Happening → ChronicleData
chronicle_of o events = record { opening = o; ticks = (run o events).ticks }
