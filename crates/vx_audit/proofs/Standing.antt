-- Where a walk over the record stands beside a game: what is left of the record is a run from the map
-- of the game on, and what the game has recorded in its windows comes before it.
use Rattle.std.proofs.Common.{◌≡◌, ℕ, ◌+◌, List, [], ◌∷◌, length, map, ap, ◌∙◌, subst, arith}
use Rattle.std.specs.List.{All, sum_by}
use Rattle.vx_geom.specs.Sizes.{Sizes}
use Rattle.vx_cells.specs.Maps.{MapData}
use Rattle.vx_cells.specs.SectorCells.{SectorCells}
use Rattle.vx_region.specs.Regions.{Regions}
use Rattle.vx_policy.specs.Asked.{Asked}
use Rattle.vx_policy.specs.declared.version.Version.{Version}
use Rattle.vx_sector.specs.SectorData.{SectorData, EntryData}
use Rattle.vx_tick.specs.Ticks.{fates_on, stepped}
use Rattle.vx_windows.specs.Sectors.{entries_of}
use Rattle.vx_record.specs.Chronicles.{TickData, AreWindows, AreTicks, AreGrown, all_after, map_acted, map_after, version_by}
use Rattle.vx_play.specs.Plays.{PlayData, IsWorld, calls, map_of}
use Rattle.vx_record.specs.Archives.{calls_on}
use Rattle.vx_audit.specs.Walks.{WalkData, AreParts, version_in, windows_in}

-- the ticks that are left, the first with what is left of its windows
abbrev pub ticks_left : List TickData → List (List EntryData) → List TickData
ticks_left [] lefts = []
ticks_left (tick ∷ ticks) lefts = record tick { windows = lefts } ∷ ticks

-- and what is left of the open windows
abbrev pub open_left : List TickData → List (List EntryData) → List (List EntryData) → List (List EntryData)
open_left [] lefts pending = lefts
open_left (tick ∷ ticks) lefts pending = pending

-- what the record is of, from its beginning to its end
pub record Whole : Type 0 where
  pub sizes : Sizes
  pub names : List (List ℕ)
  pub first : Regions
  pub edits : List Asked
  pub ticks : ℕ
  pub calls : ℕ
  pub windows : List (List EntryData)
  pub version : Version

pub record Stands (g : Whole) (play : PlayData) (w : WalkData) : Type 0 where
  pub sizes : play.sizes ≡ g.sizes
  pub world : IsWorld play
  pub first : play.first ≡ g.first
  pub version : play.version ≡ version_in w.ticks w.last
  pub judged : All (λ (s : SectorData). s.version ≡ play.version) play.sectors
  pub ticks : AreTicks g.names (map_of play) (play.ticks + 1) (ticks_left w.ticks w.lefts)
  pub pending : AreWindows g.names w.last.policy (map_after (map_of play) (ticks_left w.ticks w.lefts)).sectors
      (open_left w.ticks w.lefts w.pending)
  pub low : ℕ
  pub grown : AreGrown g.first g.edits low w.ticks w.last.edits
  pub last : w.last ≡ version_by g.first g.edits w.last.edits (play.ticks + length w.ticks + 1)
  pub counted : w.edits ≡ length play.accepted
  pub all : play.ticks + length w.ticks ≡ g.ticks
  pub calls : calls play + calls_on (ticks_left w.ticks w.lefts) (open_left w.ticks w.lefts w.pending) ≡ g.calls
  pub parts : AreParts (windows_in w.ticks w.pending) (map entries_of play.sectors) w.lefts
  pub ends : (w.pending ≡ g.windows) × (w.last ≡ g.version)

-- the windows that come first are windows over the map
pub first_windows : (names : List (List ℕ)) (m : MapData) (ts : List TickData) (n : ℕ) (lefts pending : List (List EntryData)) (last : Version)
    → AreTicks names m n (ticks_left ts lefts)
    → AreWindows names last.policy (map_after m (ticks_left ts lefts)).sectors (open_left ts lefts pending)
    → AreWindows names (version_in ts last).policy m.sectors lefts
first_windows names m [] n lefts pending last ticks is = is
first_windows names m (t ∷ ts) n lefts pending last ticks is = ticks.0.windows

-- where the cells after what is left are the same, so is all that follows
module _ (names : List (List ℕ)) (m : MapData) (cells : List SectorCells) (lefts next : List (List EntryData))
    (same : all_after m.sectors lefts ≡ all_after cells next) where
  abbrev moved : MapData
  moved = record m { sectors = cells }

  acted : (t : TickData) → map_acted m (record t { windows = lefts }) ≡ map_acted moved (record t { windows = next })
  acted t = λ i. record m { sectors = same i }

  pub ticks_moved : (ts : List TickData) (n : ℕ) (last : Version) → AreWindows names (version_in ts last).policy cells next
      → AreTicks names m n (ticks_left ts lefts) → AreTicks names moved n (ticks_left ts next)
  ticks_moved [] n last are is = tt
  ticks_moved (t ∷ ts) n last are is = (
    record { number = is.0.number; version = is.0.version; windows = are; fates = is.0.fates ∙ ap (fates_on t.version.policy) (acted t) },
    subst (λ (x : MapData). AreTicks names x (n + 1) ts) (ap (stepped t.version.policy) (acted t)) is.1,
  )

  pub open_moved : (ts : List TickData) (last : Version) (pending : List (List EntryData)) → AreWindows names (version_in ts last).policy cells next
      → AreWindows names last.policy (map_after m (ticks_left ts lefts)).sectors (open_left ts lefts pending)
      → AreWindows names last.policy (map_after moved (ticks_left ts next)).sectors (open_left ts next pending)
  open_moved [] last pending are is = are
  open_moved (t ∷ ts) last pending are is =
      subst (λ (x : MapData). AreWindows names last.policy (map_after x ts).sectors pending) (ap (stepped t.version.policy) (acted t)) is

-- one call less is left of the record
pub calls_less : (ts : List TickData) (lefts next pending : List (List EntryData)) → sum_by length lefts ≡ sum_by length next + 1
    → calls_on (ticks_left ts lefts) (open_left ts lefts pending) ≡ calls_on (ticks_left ts next) (open_left ts next pending) + 1
calls_less [] lefts next pending less = less
calls_less (t ∷ ts) lefts next pending less = omega (arith, less)
