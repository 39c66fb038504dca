-- What a game has recorded, beside what a walk leaves of the record.
use Rattle.std.proofs.Common.{◌≡◌, ℕ, zero, suc, List, [], ◌∷◌, ◌++◌, map, set, slice_get, Some, refl, sym, ap, ◌∙◌, append_assoc, append-nil}
use Rattle.std.specs.List.{All, AllByRecursion}
use Rattle.std.proofs.lemmas.List.Elements.{recursion_from_All}
use Rattle.std.proofs.lemmas.Option.{same_Some}
use Rattle.vx_cells.specs.SectorCells.{SectorCells}
use Rattle.vx_policy.specs.declared.version.Version.{Version}
use Rattle.vx_region.specs.Regions.{Regions}
use Rattle.vx_sector.specs.SectorData.{SectorData, EntryData}
use Rattle.vx_sector.specs.Windows.{renewed}
use Rattle.vx_windows.specs.Sectors.{cells_of, entries_of, renewed_over}
use Rattle.vx_record.specs.Chronicles.{TickData, AreWindows}
use Rattle.vx_play.specs.Plays.{PlayData}
use Rattle.vx_audit.specs.Deeds.{DeedData, IsPlayed}
use Rattle.vx_audit.specs.Recorded.{IsRecorded, ticks_by}
use Rattle.vx_audit.specs.Walks.{AreDone, AreParts}

-- the next entry of a window goes over to what is recorded
pub part_more : (windows entries lefts : List (List EntryData)) (k : ℕ) (before : List EntryData) (call : EntryData) (rest : List EntryData)
    → AreParts windows entries lefts → slice_get entries k ≡ Some before → slice_get lefts k ≡ Some (call ∷ rest)
    → AreParts windows (set entries k (before ++ call ∷ [])) (set lefts k rest)
part_more [] [] [] k before call rest parts there found = cc
part_more [] [] (left ∷ lefts) k before call rest parts there found = absurd parts
part_more [] (es ∷ entries) lefts k before call rest parts there found = absurd parts
part_more (window ∷ windows) [] lefts k before call rest parts there found = absurd parts
part_more (window ∷ windows) (es ∷ entries) [] k before call rest parts there found = absurd parts
part_more (window ∷ windows) (es ∷ entries) (left ∷ lefts) zero before call rest parts there found = (
  parts.0 ∙ (λ i. same_Some _ _ there i ++ same_Some _ _ found i) ∙ sym (append_assoc before (call ∷ []) rest),
  parts.1,
)
part_more (window ∷ windows) (es ∷ entries) (left ∷ lefts) (suc k) before call rest parts there found =
    (parts.0, part_more windows entries lefts k before call rest parts.1 there found)

-- where no sector has recorded anything, all of the windows is left
all_parts : (names : List (List ℕ)) (policy : Regions) (ss : List SectorData) (windows : List (List EntryData))
    → AllByRecursion (λ (s : SectorData). s.entries ≡ []) ss → AreWindows names policy (map cells_of ss) windows
    → AreParts windows (map entries_of ss) windows
all_parts names policy [] [] none are = tt
all_parts names policy [] (window ∷ windows) none are = absurd are
all_parts names policy (s ∷ ss) [] none are = absurd are
all_parts names policy (s ∷ ss) (window ∷ windows) none are =
    (sym (ap (λ es. es ++ window) none.0), all_parts names policy ss windows none.1 are.2)

pub parts_begun : (names : List (List ℕ)) (policy : Regions) (ss : List SectorData) (windows : List (List EntryData))
    → All (λ (s : SectorData). s.entries ≡ []) ss → AreWindows names policy (map cells_of ss) windows
    → AreParts windows (map entries_of ss) windows
parts_begun names policy ss windows none are =
    all_parts names policy ss windows (recursion_from_All (λ (s : SectorData). s.entries ≡ []) ss none) are

-- where nothing is left, all of the windows is recorded
none_left : (windows entries lefts : List (List EntryData)) → AreParts windows entries lefts
    → AllByRecursion (λ left. left ≡ []) lefts → windows ≡ entries
none_left [] [] [] parts done = refl
none_left [] [] (left ∷ lefts) parts done = absurd parts
none_left [] (es ∷ entries) lefts parts done = absurd parts
none_left (window ∷ windows) [] lefts parts done = absurd parts
none_left (window ∷ windows) (es ∷ entries) [] parts done = absurd parts
none_left (window ∷ windows) (es ∷ entries) (left ∷ lefts) parts done =
    let here : window ≡ es = parts.0 ∙ ap (λ rest. es ++ rest) done.0 ∙ append-nil es in
    λ i. here i ∷ none_left windows entries lefts parts.1 done.1 i

pub parts_done : (windows entries lefts : List (List EntryData)) → AreParts windows entries lefts → AreDone lefts → windows ≡ entries
parts_done windows entries lefts parts done =
    none_left windows entries lefts parts (recursion_from_All (λ left. left ≡ []) lefts done)

-- a window begins with nothing recorded
pub renewed_empty : (version : Version) (s : SectorData) (cells : SectorCells) → (renewed_over version s cells).entries ≡ []
unfolding renewed
renewed_empty version s cells = refl

-- deeds of which ticks are recorded are played
pub played_of : (play : PlayData) (deeds : List DeedData) (ticks : List TickData) (last : PlayData) → IsRecorded play deeds ticks last → IsPlayed play deeds last
played_of play [] ticks last is = is.1
played_of play (deed ∷ deeds) ticks last is = (is.0, is.2, played_of is.0 deeds is.1 last is.4)

-- of deeds that are played a list of ticks is recorded, which may be empty
pub recorded_of : (play : PlayData) (deeds : List DeedData) (last : PlayData) → IsPlayed play deeds last
    → (ticks : List TickData) × IsRecorded play deeds ticks last
recorded_of play [] last is = ([], (refl, is))
recorded_of play (deed ∷ deeds) last is =
    let rest = recorded_of is.0 deeds last is.2 in
    (ticks_by play deed ++ rest.0, (is.0, rest.0, is.1, refl, rest.1))
