-- The windows of a tick, recorded entry by entry.
use Rattle.std.proofs.Common.{◌≡◌, ℕ, zero, suc, ◌+◌, ◌<◌, ◌≤◌, true, false, List, [], ◌∷◌, ◌++◌, length, map, set, get_or, replicate, slice_get, Some, option_map, refl, sym, ap, ◌∙◌, subst, inl, inr, arith, append_assoc, append-nil, length-append}
use Rattle.std.specs.List.{AllByRecursion}
use Rattle.std.specs.Option.{is_some, unwrap_or, option_map_or}
use Rattle.std.proofs.Math.Seq.{set-append_seam}
use Rattle.std.proofs.lemmas.Bool.{cases_Bool, and_from, leb-true}
use Rattle.std.proofs.lemmas.List.Elements.{All-head, All-tail}
use Rattle.std.proofs.lemmas.Option.{slice_get-map}
use Rattle.vx_geom.specs.Sizes.{sector_of}
use Rattle.vx_cells.specs.SectorCells.{holds}
use Rattle.vx_cells.proofs.Indices.{sector_at}
use Rattle.vx_cells.proofs.MapLemmas.{placed_at}
use Rattle.vx_policy.specs.declared.version.Version.{Version}
use Rattle.vx_sector.specs.Acting.{rules_answer}
use Rattle.vx_sector.specs.Commands.{place_of}
use Rattle.vx_sector.specs.SectorData.{SectorData, SeatData, EntryData}
use Rattle.vx_sector.specs.Windows.{IsWindow, cells_after, answer_of, count_of, is_full, most_entries, recorded, sector_after}
use Rattle.vx_sector.proofs.Outside.{answered_by_the_rules, after_answer}
use Rattle.vx_windows.specs.Sectors.{cells_of, entries_of}
use Rattle.vx_record.specs.Chronicles.{TickData, AreSeated, AreWindows, IsSeatOf, all_after}
use Rattle.vx_record.specs.Archives.{closed_of, next_counts}
use Rattle.vx_play.specs.Plays.{PlayData, IsWorld, sector_asked, seat_at, answered}
use Rattle.vx_play.proofs.Whole.{answered_there, commands_keep_worlds}
use Rattle.vx_core.specs.Events.{Acts}
use Rattle.vx_core.specs.Machines.{MachineData, is_at, is_home, is_stage, acted}
use Rattle.vx_core.specs.declared.stage.Stage.TheVariants.{Home}
use Rattle.vx_core.proofs.Leading.{Leads, and_on, stays, by_event, home, at_seam}

-- a sector after further entries of its window
abbrev pub filled : SectorData → List EntryData → SectorData
filled s window = record s { cells = cells_after s.cells window; entries = s.entries ++ window }

-- sectors, each after the entries of a window
abbrev pub filled_all : List SectorData → List (List EntryData) → List SectorData
filled_all [] windows = []
filled_all (s ∷ sectors) [] = s ∷ sectors
filled_all (s ∷ sectors) (window ∷ windows) = filled s window ∷ filled_all sectors windows

-- each may record a window from these seats
abbrev pub AreReady : List (List ℕ) → List SectorData → List (List EntryData) → Type 0
AreReady names [] [] = Unit {0}
AreReady names (s ∷ sectors) (window ∷ windows) =
    IsWindow s.version.policy s.cells window × AreSeated names window × (count_of s + length window ≤ most_entries)
    × AreReady names sectors windows
AreReady names sectors windows = ⊥

-- a sector with few entries is not full
free_below : (s : SectorData) → count_of s < most_entries → is_full s ≡ false
unfolding is_full
free_below s few = elim (cases_Bool (is_full s)) [
  | inl full ↦ absurd (omega (arith, few, leb-true most_entries (count_of s) full))
  | inr free ↦ free
]

-- the seat of an entry is there
seat_there : (play : PlayData) (seat : SeatData) → IsSeatOf play.names seat → seat_at play seat.number ≡ Some seat
unfolding seat_at
seat_there play seat sits = ap (option_map (λ name. record { number = seat.number; name = name })) sits

home_at : (n k : ℕ) → k < n → slice_get (replicate n Home) k ≡ Some Home
home_at zero k within = absurd (omega (arith, within))
home_at (suc n) zero within = refl
home_at (suc n) (suc k) within = home_at n k (omega (arith, within))

-- and so is its sector, at home
asked_at : (m : MachineData) (e : EntryData) (k : ℕ) → sector_of m.play.sizes (place_of e.cmd) ≡ Some k
    → slice_get m.stages k ≡ Some Home → is_home m e.cmd ≡ true
unfolding sector_asked
asked_at m e k asked at_home =
    ap (λ o. option_map_or (λ j. is_at m j Home) o false) asked
    ∙ ap (λ o. option_map_or (is_stage Home) o false) at_home

module _ (n : ℕ) (play : PlayData) (ticks : List TickData) where
  -- the world with these sectors
  abbrev having : List SectorData → PlayData
  having sectors = record play { sectors = sectors }

  abbrev machine : List SectorData → MachineData
  machine sectors = home n (having sectors) ticks

  -- one entry
  module _ (before after : List SectorData) (s : SectorData) (e : EntryData) (whole : IsWorld (having (before ++ s ∷ after)))
      (within : length before < n) (sits : IsSeatOf play.names e.seat) (held : holds s.cells (place_of e.cmd) ≡ true)
      (told : e.answer ≡ rules_answer s.version.policy s.cells e.seat e.cmd) (few : count_of s < most_entries) where
    there : slice_get (before ++ s ∷ after) (length before) ≡ Some s
    there = at_seam before s after

    asked : sector_of play.sizes (place_of e.cmd) ≡ Some (length before)
    asked =
        let placed = placed_at play.sizes 0 (length before) (map cells_of (before ++ s ∷ after)) s.cells whole.each
        (slice_get-map cells_of (before ++ s ∷ after) (length before) ∙ ap (option_map cells_of) there) in
        let number : s.cells.sector ≡ length before = omega (arith, placed.1) in
        ap (λ sizes. sector_of sizes (place_of e.cmd)) (sym placed.0) ∙ sector_at s.cells (place_of e.cmd) held ∙ ap Some number

    leaves : sector_after s e.seat e.cmd (answer_of s e.seat e.cmd) ≡ recorded s e
    leaves =
        ap (sector_after s e.seat e.cmd) (sym (answered_by_the_rules s e.seat e.cmd held (free_below s few)) ∙ sym told)
        ∙ sym (after_answer s e.seat e.cmd e.answer told)

    sectors_next : (answered (having (before ++ s ∷ after)) e.seat e.cmd).1 ≡ before ++ recorded s e ∷ after
    sectors_next =
        ap (λ a. a.1) (answered_there (having (before ++ s ∷ after)) e.seat e.cmd (length before) s asked there)
        ∙ ap (set (before ++ s ∷ after) (length before)) leaves
        ∙ set-append_seam before s after (recorded s e)

    one_entry : Leads (machine (before ++ s ∷ after)) (machine (before ++ recorded s e ∷ after))
    one_entry =
        let seated = seat_there (having (before ++ s ∷ after)) e.seat sits in
        by_event _ (Acts e.seat.number e.cmd) _
        (and_from _ _ (ap is_some seated) (asked_at (machine (before ++ s ∷ after)) e (length before) asked (home_at n (length before) within)))
        (ap (acted (machine (before ++ s ∷ after)) e.cmd) seated ∙ ap machine sectors_next)

    whole_next : IsWorld (having (before ++ recorded s e ∷ after))
    whole_next =
        subst (λ sectors. IsWorld (having sectors)) sectors_next
        (commands_keep_worlds (having (before ++ s ∷ after)) e.seat e.cmd whole)

  -- the entries of one window
  one_window : (window : List EntryData) (before after : List SectorData) (s : SectorData) → IsWorld (having (before ++ s ∷ after))
      → length before < n → IsWindow s.version.policy s.cells window → AreSeated play.names window
      → count_of s + length window ≤ most_entries
      → Leads (machine (before ++ s ∷ after)) (machine (before ++ filled s window ∷ after)) × IsWorld (having (before ++ filled s window ∷ after))
  one_window [] before after s whole within is seated few =
      let same : s ≡ filled s [] = ap (λ entries. record s { entries = entries }) (sym (append-nil s.entries)) in (
        ([], ap (λ t. machine (before ++ t ∷ after)) same),
        subst (λ (t : SectorData). IsWorld (having (before ++ t ∷ after))) same whole,
      )
  one_window (e ∷ window) before after s whole within is seated few =
      let sits = All-head (λ (entry : EntryData). IsSeatOf play.names entry.seat) e window seated in
      let room : count_of s < most_entries = omega (arith, few) in
      let next : IsWorld (having (before ++ recorded s e ∷ after)) = whole_next before after s e whole within sits is.0 is.1 room in
      let rest = one_window window before after (recorded s e) next within is.2
      (All-tail (λ (entry : EntryData). IsSeatOf play.names entry.seat) e window seated)
      (omega (arith, few, length-append s.entries (e ∷ []))) in
      let same : filled (recorded s e) window ≡ filled s (e ∷ window) =
      ap (λ entries. record s { cells = cells_after s.cells (e ∷ window); entries = entries }) (append_assoc s.entries (e ∷ []) window) in (
        and_on _ _ _ (one_entry before after s e whole within sits is.0 is.1 room)
            (subst (λ (t : SectorData). Leads (machine (before ++ recorded s e ∷ after)) (machine (before ++ t ∷ after))) same rest.0),
        subst (λ (t : SectorData). IsWorld (having (before ++ t ∷ after))) same rest.1,
      )

  -- and those of all
  all_windows : (before sectors : List SectorData) (windows : List (List EntryData)) → IsWorld (having (before ++ sectors))
      → length (before ++ sectors) ≡ n → AreReady play.names sectors windows
      → Leads (machine (before ++ sectors)) (machine (before ++ filled_all sectors windows)) × IsWorld (having (before ++ filled_all sectors windows))
  all_windows before [] [] whole count ready = (stays _, whole)
  all_windows before [] (window ∷ windows) whole count ready = absurd ready
  all_windows before (s ∷ sectors) [] whole count ready = absurd ready
  all_windows before (s ∷ sectors) (window ∷ windows) whole count ready =
      let within : length before < n = omega (arith, count, length-append before (s ∷ sectors)) in
      let here = one_window window before sectors s whole within ready.0 ready.1 ready.2 in
      let joined : (xs : List SectorData) → (before ++ filled s window ∷ []) ++ xs ≡ before ++ filled s window ∷ xs =
      append_assoc before (filled s window ∷ []) in
      let rest = all_windows (before ++ filled s window ∷ []) sectors windows
      (subst (λ xs. IsWorld (having xs)) (sym (joined sectors)) here.1)
      (ap length (joined sectors) ∙ length-append before (filled s window ∷ sectors) ∙ sym (length-append before (s ∷ sectors)) ∙ count)
      ready.3 in (
        and_on _ _ _ here.0
            (subst (λ xs. Leads (machine xs) (machine (before ++ filled s window ∷ filled_all sectors windows))) (joined sectors)
            (subst (λ xs. Leads (machine ((before ++ filled s window ∷ []) ++ sectors)) (machine xs)) (joined (filled_all sectors windows)) rest.0)),
        subst (λ xs. IsWorld (having xs)) (joined (filled_all sectors windows)) rest.1,
      )

-- the commands of all windows, in a world at play
pub by_windows : (n : ℕ) (play : PlayData) (ticks : List TickData) (windows : List (List EntryData)) → IsWorld play
    → length play.sectors ≡ n → AreReady play.names play.sectors windows
    → Leads (home n play ticks) (home n (record play { sectors = filled_all play.sectors windows }) ticks)
    × IsWorld (record play { sectors = filled_all play.sectors windows })
by_windows n play ticks windows whole count ready = all_windows n play ticks [] play.sectors windows whole count ready

-- sectors in which nothing is recorded yet may record windows over their cells where there is room
pub are_ready : (names : List (List ℕ)) (version : Version) (sectors : List SectorData) (windows : List (List EntryData))
    → AllByRecursion (λ (s : SectorData). s.version ≡ version) sectors → AllByRecursion (λ (s : SectorData). s.entries ≡ []) sectors
    → AreWindows names version.policy (map cells_of sectors) windows
    → ((k : ℕ) → k < length sectors → get_or (map closed_of sectors) k 0 + length (unwrap_or (slice_get windows k) []) ≤ most_entries)
    → AreReady names sectors windows
are_ready names version [] [] judged empty are room = tt
are_ready names version [] (window ∷ windows) judged empty are room = absurd are
are_ready names version (s ∷ sectors) [] judged empty are room = absurd are
are_ready names version (s ∷ sectors) (window ∷ windows) judged empty are room = (
  subst (λ (v : Version). IsWindow v.policy s.cells window) (sym judged.0) are.0,
  are.1,
  omega (arith, room 0 (omega arith), ap length empty.0),
  are_ready names version sectors windows judged.1 empty.1 are.2 (λ k within. room (suc k) (omega (arith, within))),
)

-- what they have then
pub cells_filled : (sectors : List SectorData) (windows : List (List EntryData))
    → map cells_of (filled_all sectors windows) ≡ all_after (map cells_of sectors) windows
cells_filled [] windows = refl
cells_filled (s ∷ sectors) [] = refl
cells_filled (s ∷ sectors) (window ∷ windows) = ap (λ cs. cells_after s.cells window ∷ cs) (cells_filled sectors windows)

pub entries_filled : (names : List (List ℕ)) (sectors : List SectorData) (windows : List (List EntryData))
    → AllByRecursion (λ (s : SectorData). s.entries ≡ []) sectors → AreReady names sectors windows
    → map entries_of (filled_all sectors windows) ≡ windows
entries_filled names [] [] empty ready = refl
entries_filled names [] (window ∷ windows) empty ready = absurd ready
entries_filled names (s ∷ sectors) [] empty ready = absurd ready
entries_filled names (s ∷ sectors) (window ∷ windows) empty ready =
    let rest = entries_filled names sectors windows empty.1 ready.3 in
    λ i. (empty.0 i ++ window) ∷ rest i

pub counts_filled : (sectors : List SectorData) (windows : List (List EntryData))
    → AllByRecursion (λ (s : SectorData). s.entries ≡ []) sectors
    → map count_of (filled_all sectors windows) ≡ next_counts (map closed_of sectors) windows
counts_filled [] windows empty = refl
counts_filled (s ∷ sectors) [] empty = none_more (s ∷ sectors) empty
  where
    none_more : (sectors : List SectorData) → AllByRecursion (λ (s : SectorData). s.entries ≡ []) sectors
        → map count_of sectors ≡ map closed_of sectors
    none_more [] empty = refl
    none_more (s ∷ sectors) empty =
        let here : count_of s ≡ s.closed = omega (arith, ap length empty.0) in
        let rest = none_more sectors empty.1 in
        λ i. here i ∷ rest i
counts_filled (s ∷ sectors) (window ∷ windows) empty =
    let here : length (s.entries ++ window) + s.closed ≡ s.closed + length window =
    omega (arith, ap length empty.0, length-append s.entries window) in
    let rest = counts_filled sectors windows empty.1 in
    λ i. here i ∷ rest i
