-- What is kept of the windows that a tick closes.
use Rattle.std.specs.Prelude.{ℕ, ◌<◌, Bool, true, false, List, [], ◌∷◌, replicate, slice_set, count_by, All, AllPairs}
use Rattle.vx_sector.specs.SectorData.{EntryData}
use Rattle.vx_windows.specs.Sectors.{entries_in}
use Rattle.vx_record.specs.declared.kept_window.KeptWindow.{KeptWindow}

-- whether a window has entries
abbrev pub is_busy : List EntryData → Bool
is_busy [] = false
is_busy (entry ∷ entries) = true

-- how many of these windows have entries
abbrev pub busy_count : List (List EntryData) → ℕ
busy_count windows = count_by is_busy windows

-- the windows of so many sectors: those that are kept at their numbers, empty ones elsewhere
abbrev pub windows_kept : ℕ → List KeptWindow → List (List EntryData)
windows_kept sectors [] = replicate sectors []
windows_kept sectors (window ∷ kept) =
    slice_set (windows_kept sectors kept) window.sector (entries_in window.entries)

-- each is of a later sector than those before it, and of one of so many
abbrev pub AreInOrder : ℕ → List KeptWindow → Type 0
AreInOrder sectors kept =
    AllPairs (λ window later. window.sector < later.sector) kept
    × All (λ window. window.sector < sectors) kept
