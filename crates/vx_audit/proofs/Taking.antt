-- The next entry of a sector's window, taken.
use Rattle.std.proofs.Common.{◌≡◌, ℕ, zero, suc, ◌+◌, ◌≤◌, List, [], ◌∷◌, length, map, set, slice_get, Some, refl, ap, ◌∙◌, subst, arith, length-append}
use Rattle.std.specs.List.{AllByRecursion, sum_by}
use Rattle.std.proofs.lemmas.List.Elements.{All-head, All-tail, recursion_from_All}
use Rattle.std.proofs.lemmas.List.Sums.{sum_by-set, sum_by-cons}
use Rattle.std.proofs.lemmas.Option.{same_Some, get_or_from_slice_get, slice_get_within}
use Rattle.vx_cells.specs.SectorCells.{SectorCells}
use Rattle.vx_region.specs.Regions.{Regions}
use Rattle.vx_sector.specs.Acting.{cells_by}
use Rattle.vx_sector.specs.SectorData.{SectorData, EntryData}
use Rattle.vx_sector.specs.Windows.{IsWindow, cells_after, count_of, recorded, renewed}
use Rattle.vx_policy.specs.declared.version.Version.{Version}
use Rattle.vx_windows.specs.Sectors.{all_renewed, renewed_over, opened_with}
use Rattle.vx_record.specs.Chronicles.{AreWindows, AreSeated, IsSeatOf, all_after}
use Rattle.vx_audit.specs.Walks.{AreDone}

module _ (names : List (List ℕ)) (policy : Regions) where
  -- the sector in whose window the entry is the next one, and its seat is one of the world's
  pub sector_there : (cs : List SectorCells) (lefts : List (List EntryData)) (k : ℕ) (e : EntryData) (rest : List EntryData)
      → AreWindows names policy cs lefts → slice_get lefts k ≡ Some (e ∷ rest)
      → (c : SectorCells) × (slice_get cs k ≡ Some c) × IsWindow policy c (e ∷ rest) × IsSeatOf names e.seat
  sector_there [] [] k e rest are found = cc
  sector_there [] (left ∷ lefts) k e rest are found = absurd are
  sector_there (c ∷ cs) [] k e rest are found = absurd are
  sector_there (c ∷ cs) (left ∷ lefts) zero e rest are found = (
    c,
    refl,
    subst (IsWindow policy c) (same_Some _ _ found) are.0,
    All-head (λ (entry : EntryData). IsSeatOf names entry.seat) e rest (subst (AreSeated names) (same_Some _ _ found) are.1),
  )
  sector_there (c ∷ cs) (left ∷ lefts) (suc k) e rest are found = sector_there cs lefts k e rest are.2 found

  -- what is left are windows over the cells after it
  pub windows_on : (cs : List SectorCells) (lefts : List (List EntryData)) (k : ℕ) (e : EntryData) (rest : List EntryData) (c : SectorCells)
      → AreWindows names policy cs lefts → slice_get lefts k ≡ Some (e ∷ rest) → slice_get cs k ≡ Some c
      → AreWindows names policy (set cs k (cells_by c e.cmd e.answer)) (set lefts k rest)
  windows_on [] [] k e rest c are found there = cc
  windows_on [] (left ∷ lefts) k e rest c are found there = absurd are
  windows_on (d ∷ cs) [] k e rest c are found there = absurd are
  windows_on (d ∷ cs) (left ∷ lefts) zero e rest c are found there =
      let window : IsWindow policy c (e ∷ rest) =
      subst (λ x. IsWindow policy x (e ∷ rest)) (same_Some _ _ there) (subst (IsWindow policy d) (same_Some _ _ found) are.0) in
      let seated : AreSeated names (e ∷ rest) = subst (AreSeated names) (same_Some _ _ found) are.1 in
      (window.2, All-tail (λ (entry : EntryData). IsSeatOf names entry.seat) e rest seated, are.2)
  windows_on (d ∷ cs) (left ∷ lefts) (suc k) e rest c are found there =
      (are.0, are.1, windows_on cs lefts k e rest c are.2 found there)

-- after what is left, the cells are the same
pub cells_on : (cs : List SectorCells) (lefts : List (List EntryData)) (k : ℕ) (e : EntryData) (rest : List EntryData) (c : SectorCells)
    → slice_get lefts k ≡ Some (e ∷ rest) → slice_get cs k ≡ Some c
    → all_after cs lefts ≡ all_after (set cs k (cells_by c e.cmd e.answer)) (set lefts k rest)
cells_on [] lefts k e rest c found there = refl
cells_on (d ∷ cs) [] k e rest c found there = cc
cells_on (d ∷ cs) (left ∷ lefts) zero e rest c found there =
    ap (λ ds. ds ∷ all_after cs lefts)
    (ap (cells_after d) (same_Some _ _ found) ∙ ap (λ x. cells_after x (e ∷ rest)) (same_Some _ _ there))
cells_on (d ∷ cs) (left ∷ lefts) (suc k) e rest c found there =
    ap (λ ds. cells_after d left ∷ ds) (cells_on cs lefts k e rest c found there)

-- where nothing is left, they are the cells
done_cells : (cs : List SectorCells) (lefts : List (List EntryData)) → AllByRecursion (λ left. left ≡ []) lefts → all_after cs lefts ≡ cs
done_cells [] lefts done = refl
done_cells (c ∷ cs) [] done = refl
done_cells (c ∷ cs) (left ∷ lefts) done =
    λ i. cells_after c (done.0 i) ∷ done_cells cs lefts done.1 i

pub cells_done : (cs : List SectorCells) (lefts : List (List EntryData)) → AreDone lefts → all_after cs lefts ≡ cs
cells_done cs lefts done = done_cells cs lefts (recursion_from_All (λ left. left ≡ []) lefts done)

none_done : (lefts : List (List EntryData)) → AllByRecursion (λ left. left ≡ []) lefts → sum_by length lefts ≡ 0
none_done [] done = refl
none_done (left ∷ lefts) done =
    omega (arith, sum_by-cons length left lefts, ap length done.0, none_done lefts done.1)

-- and none is counted
pub calls_done : (lefts : List (List EntryData)) → AreDone lefts → sum_by length lefts ≡ 0
calls_done lefts done = none_done lefts (recursion_from_All (λ left. left ≡ []) lefts done)

-- one call less is left
pub one_less : (lefts : List (List EntryData)) (k : ℕ) (e : EntryData) (rest : List EntryData) → slice_get lefts k ≡ Some (e ∷ rest)
    → sum_by length lefts ≡ sum_by length (set lefts k rest) + 1
one_less lefts k e rest found =
    omega (arith, sum_by-set length lefts k rest [] (slice_get_within lefts k (e ∷ rest) found), ap length (get_or_from_slice_get lefts k (e ∷ rest) [] found))

-- and one more is recorded
pub one_more : (sectors : List SectorData) (k : ℕ) (s : SectorData) (e : EntryData) → slice_get sectors k ≡ Some s
    → sum_by count_of (set sectors k (recorded s e)) ≡ sum_by count_of sectors + 1
one_more sectors k s e found =
    omega (
      arith,
      sum_by-set count_of sectors k (recorded s e) s (slice_get_within sectors k s found),
      ap count_of (get_or_from_slice_get sectors k s s found),
      length-append s.entries (e ∷ []),
    )

-- a sector records no more than all
pub part : (sectors : List SectorData) (k : ℕ) (s : SectorData) → slice_get sectors k ≡ Some s → count_of s ≤ sum_by count_of sectors
part [] k s found = cc
part (r ∷ sectors) zero s found = omega (arith, sum_by-cons count_of r sectors, ap count_of (same_Some _ _ found))
part (r ∷ sectors) (suc k) s found = omega (arith, sum_by-cons count_of r sectors, part sectors k s found)

-- a tick counts none
pub counts_stay : (v : Version) (sectors : List SectorData) (cs : List SectorCells)
    → sum_by count_of (all_renewed v sectors cs) ≡ sum_by count_of sectors
unfolding renewed
counts_stay v [] cs = refl
counts_stay v (s ∷ sectors) [] =
    omega (arith, sum_by-cons count_of (renewed_over v s s.cells) (all_renewed v sectors []), counts_stay v sectors [], sum_by-cons count_of s sectors)
counts_stay v (s ∷ sectors) (c ∷ cs) =
    omega (arith, sum_by-cons count_of (renewed_over v s c) (all_renewed v sectors cs), counts_stay v sectors cs, sum_by-cons count_of s sectors)

-- a world begins with none
pub none_begun : (rs : Regions) (cs : List SectorCells) → sum_by count_of (map (opened_with rs) cs) ≡ 0
none_begun rs [] = refl
none_begun rs (c ∷ cs) = omega (arith, sum_by-cons count_of (opened_with rs c) (map (opened_with rs) cs), none_begun rs cs)
