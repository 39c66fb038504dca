use Rattle.std.specs.Prelude.{ℕ, ◌+◌, Bool, bytes_eq, if◌then◌else◌, List, [], ◌∷◌, length, map, slice_get, slice_set, Option, Some, None, option_map, is_some, Result, Err}
use Rattle.std.specs.List.{sum_by}
use Rattle.vx_geom.specs.declared.pos.Pos.{Pos}
use Rattle.vx_geom.specs.Sizes.{Sizes, sector_of}
use Rattle.vx_region.specs.Regions.{Regions}
use Rattle.vx_policy.specs.Asked.{Asked}
use Rattle.vx_policy.specs.Edits.{after}
use Rattle.vx_policy.specs.declared.version.Version.{Version}
use Rattle.vx_sector.specs.SectorData.{SectorData, SeatData}
use Rattle.vx_sector.specs.Commands.{place_of}
use Rattle.vx_sector.specs.Windows.{answer_of, sector_after, count_of}
use Rattle.vx_sector.specs.declared.cmd.Cmd.{Cmd}
use Rattle.vx_sector.specs.declared.reply.Reply.{Reply}
use Rattle.vx_sector.specs.declared.refusal.Refusal.{Refusal}
use Rattle.vx_sector.specs.declared.refusal.Refusal.TheVariants.{OutOfWorld}
use Rattle.vx_cells.specs.Maps.{MapData, AreSectors}
use Rattle.vx_tick.specs.Ticks.{fates_on, stepped}
use Rattle.vx_tick.specs.declared.fate.Fate.{Fate}
use Rattle.vx_windows.specs.Sectors.{cells_of, first_version, opened_with, all_renewed}

-- a world at play: its size and its sectors, the version that judges the commands of their windows
-- and the machines of the next tick, its players' names in order of their seats, the policy that it
-- opened with, the edits accepted since, and how many ticks there were
pub record PlayData : Type 0 where
  pub sizes : Sizes
  pub sectors : List SectorData
  pub version : Version
  pub names : List (List ℕ)
  pub first : Regions
  pub accepted : List Asked
  pub ticks : ℕ

-- a world at play has each sector of its size in its place
abbrev pub IsWorld : PlayData → Type 0
IsWorld play = AreSectors play.sizes (map cells_of play.sectors)

-- the number of a name in a list, from k on
abbrev pub number_from : ℕ → List (List ℕ) → List ℕ → Option ℕ
number_from k [] name = None
number_from k (n ∷ ns) name = if bytes_eq n name then Some k else number_from (k + 1) ns name

-- the name is in the list
abbrev pub is_named : List (List ℕ) → List ℕ → Bool
is_named ns name = is_some (number_from 0 ns name)

-- the seat of the player of that name
unfoldable pub seat_named : PlayData → List ℕ → Option SeatData
seat_named play name =
    option_map (λ k. record { number = k; name = name }) (number_from 0 play.names name)

-- the seat of the player of that number, counted from 0
unfoldable pub seat_at : PlayData → ℕ → Option SeatData
seat_at play number =
    option_map (λ name. record { number = number; name = name }) (slice_get play.names number)

-- the world of this terrain and these players under this policy, with nothing done yet
abbrev pub opened : Regions → MapData → List (List ℕ) → PlayData
opened rs terrain names = record {
  sizes = terrain.sizes;
  sectors = map (opened_with rs) terrain.sectors;
  version = first_version rs;
  names = names;
  first = rs;
  accepted = [];
  ticks = 0;
}

-- how many commands were recorded, in all sectors and windows
abbrev pub calls : PlayData → ℕ
calls play = sum_by count_of play.sectors

-- the number of the sector that a command speaks of
unfoldable pub sector_asked : PlayData → Cmd → Option ℕ
sector_asked play cmd = sector_of play.sizes (place_of cmd)

-- the answer to a command of a seat in a sector; without a sector it is out of the world
abbrev pub answer_in : SeatData → Cmd → Option SectorData → Result Reply Refusal
answer_in seat cmd None = Err OutOfWorld
answer_in seat cmd (Some s) = answer_of s seat cmd

-- the sectors, that of number k after a command of a seat
abbrev pub left_in : List SectorData → ℕ → SeatData → Cmd → Option SectorData → List SectorData
left_in sectors k seat cmd None = sectors
left_in sectors k seat cmd (Some s) =
    slice_set sectors k (sector_after s seat cmd (answer_of s seat cmd))

-- the answer to a command, and the sectors after it
abbrev pub answered_at : List SectorData → SeatData → Cmd → Option ℕ
    → Result Reply Refusal × List SectorData
answered_at sectors seat cmd None = (Err OutOfWorld, sectors)
answered_at sectors seat cmd (Some k) = (
  answer_in seat cmd (slice_get sectors k),
  left_in sectors k seat cmd (slice_get sectors k),
)

unfoldable pub answered : PlayData → SeatData → Cmd → Result Reply Refusal × List SectorData
answered play seat cmd = answered_at play.sectors seat cmd (sector_asked play cmd)

-- the policy that stands, after all edits so far
abbrev pub policy_of : PlayData → Regions
policy_of play = after play.first play.accepted

-- the version that the next tick fixes
abbrev pub next_version : PlayData → Version
next_version play =
    record { tick = play.ticks + 2; edits = length play.accepted; policy = policy_of play }

-- the map of a world at play
abbrev pub map_of : PlayData → MapData
map_of play = record { sizes = play.sizes; sectors = map cells_of play.sectors }

-- the map after the next tick, which the version judges that judged the window before
abbrev pub next_map : PlayData → MapData
next_map play = stepped play.version.policy (map_of play)

-- the fates of the moves of that tick
abbrev pub next_fates : PlayData → List (Pos × Fate)
next_fates play = fates_on play.version.policy (map_of play)

-- the play after a tick: each sector begins a window over its cells of the next map, judged by the
-- next version
abbrev pub ticked : PlayData → PlayData
ticked play = record play {
  sectors = all_renewed (next_version play) play.sectors (next_map play).sectors;
  version = next_version play;
  ticks = play.ticks + 1;
}
