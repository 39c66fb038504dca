-- Marks of what a keeper knows of its world.
use Rattle.std.specs.Prelude.{◌≡◌, ◌<◌, ℕ, Bool, true, false, if◌then◌else◌, nat_eq, List, [], ◌∷◌, length, slice_get, slice_index_or, Option, None, Some, IfSome}
use Rattle.std.specs.Bool.{⊤}
use Rattle.std.specs.List.{All, list_any}
use Rattle.vx_cells.specs.Maps.{MapData}
use Rattle.vx_policy.specs.declared.version.Version.{Version}
use Rattle.vx_sector.specs.SectorData.{FreshData, SectorData}
use Rattle.vx_keeper.specs.declared.next_window.NextWindow.{NextWindow}

-- a world as its windows began: its map, and the version that judges them
pub record WorldData : Type 0 where
  pub map : MapData
  pub version : Version

-- the window of the sector began with its part of the world, and is judged by the same policy,
-- though it may be under another number
abbrev pub IsPartOf : WorldData → SectorData → Type 0
IsPartOf world s =
    (slice_get world.map.sectors s.base.sector ≡ Some s.base)
    × (record s.version { tick = world.version.tick } ≡ world.version)

-- the mark, if there is one, is of a world of which the sector's window began with its part
abbrev pub IsMarkOf : Option (Option WorldData) → SectorData → Type 0
IsMarkOf mark s = IfSome mark (λ m. (world : WorldData) × (m ≡ Some world) × IsPartOf world s)

-- the sectors of which that is said are parts of the world
abbrev pub AreParts : WorldData → List Bool → List SectorData → Type 0
AreParts world [] [] = ⊤
AreParts world (said ∷ rest) (s ∷ sectors) =
    (said ≡ true → IsPartOf world s) × AreParts world rest sectors
AreParts world said sectors = ⊥

-- the sector with its window as it is, judged by the same policy under another number
abbrev pub renumbered : SectorData → ℕ → SectorData
renumbered s tick = record s { version = record s.version { tick = tick } }

-- the sector has number n, and stands as its window began: nothing is recorded in that
abbrev pub IsQuietAt : SectorData → ℕ → Type 0
IsQuietAt s n = (s.base.sector ≡ n) × (s.entries ≡ []) × (s.cells ≡ s.base)

-- the versions are by the same policy, though they may have different numbers
abbrev pub IsSamePolicy : Version → Version → Type 0
IsSamePolicy before after = record before { tick = after.tick } ≡ after

-- from one world to the next the sector of number n keeps its cells
abbrev pub KeepsCells : WorldData → WorldData → ℕ → Type 0
KeepsCells before after n = slice_get after.map.sectors n ≡ slice_get before.map.sectors n

-- from one world to the next the sector of number n goes on over its cells, judged by the same
-- policy under another number
abbrev pub GoesOn : WorldData → WorldData → ℕ → Type 0
GoesOn before after n = KeepsCells before after n × IsSamePolicy before.version after.version

-- the marks of all sectors of the world, each, if there is one, of a world from which the sector of
-- that number goes on to this one
abbrev pub AreMarks : List (Option (Option WorldData)) → WorldData → Type 0
AreMarks marks world =
    (length marks ≡ length world.map.sectors)
    × ((n : ℕ) → IfSome (slice_index_or marks n None)
    (λ m. (before : WorldData) × (m ≡ Some before) × GoesOn before world n))

-- what is given for the next window of sector n begins it in the next world
abbrev pub IsBegun : WorldData → ℕ → FreshData → Type 0
IsBegun after n fresh =
    (slice_get after.map.sectors n ≡ Some fresh.cells) × (fresh.version ≡ after.version)

-- so does all that the list has, each for the sector of its number
abbrev pub AreBegun : WorldData → List NextWindow → Type 0
AreBegun after all = All (λ next. IsBegun after next.number next.fresh) all

-- the list has something for sector n
abbrev pub is_given : ℕ → List NextWindow → Bool
is_given n all = list_any (λ next. nat_eq next.number n) all

-- each of so many sectors is led from one world to the next by what the list has for it, or else
-- keeps its cells
abbrev pub AreLed : ℕ → WorldData → WorldData → List NextWindow → Type 0
AreLed count before after all =
    AreBegun after all
    × ((n : ℕ) → n < count → is_given n all ≡ false → KeepsCells before after n)

-- these are the marks after one was given to each sector for which the list has something; the
-- others have the ones that they had
abbrev pub AreGiven : List (Option (Option WorldData)) → List NextWindow
    → Option (Option WorldData) → List (Option (Option WorldData)) → Type 0
AreGiven marks next mark given =
    (length given ≡ length marks)
    × ((n : ℕ) → n < length marks → slice_index_or given n None
    ≡ (if is_given n next then mark else slice_index_or marks n None))

-- these are the marks after one was given to each sector
abbrev pub AreAllGiven : List (Option (Option WorldData)) → Option (Option WorldData)
    → List (Option (Option WorldData)) → Type 0
AreAllGiven marks mark given =
    (length given ≡ length marks)
    × ((n : ℕ) → n < length marks → slice_index_or given n None ≡ mark)
