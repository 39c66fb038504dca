-- Cells of which some are changed.
use Rattle.std.proofs.Common.{◌≡◌, ℕ, zero, suc, ◌<◌, List, [], ◌∷◌, ◌++◌, length, map, get_or, set, Option, Some, None, unwrap_or, refl, sym, ap, ◌∙◌, arith}
use Rattle.std.specs.List.{AllByRecursion}
use Rattle.vx_cells.specs.SectorCells.{SectorCells}
use Rattle.vx_sector.specs.SectorData.{SectorData}
use Rattle.vx_sector.specs.Windows.{IsSector, cells_after}
use Rattle.vx_windows.specs.Sectors.{AreQuiet, base_of, cells_of, with_changes}

pub as_many_changed : (cs : List SectorCells) (ys : List (Option SectorCells)) → length (with_changes cs ys) ≡ length cs
as_many_changed [] ys = refl
as_many_changed (c ∷ cs) [] = refl
as_many_changed (c ∷ cs) (y ∷ ys) = ap suc (as_many_changed cs ys)

pub changed_none : (cs : List SectorCells) → with_changes cs [] ≡ cs
changed_none [] = refl
changed_none (c ∷ cs) = refl

-- the cells of one number
pub changed_at : (cs : List SectorCells) (ys : List (Option SectorCells)) (k : ℕ) (y : Option SectorCells) (c : SectorCells)
    → k < length ys → k < length cs → get_or (with_changes cs ys) k c ≡ unwrap_or (get_or ys k y) (get_or cs k c)
changed_at [] ys k y c near within = absurd (omega (arith, within))
changed_at (d ∷ cs) [] k y c near within = absurd (omega (arith, near))
changed_at (d ∷ cs) (x ∷ ys) zero y c near within = refl
changed_at (d ∷ cs) (x ∷ ys) (suc k) y c near within = changed_at cs ys k y c (omega (arith, near)) (omega (arith, within))

-- others in the place of those of one number
pub changed_set : (cs : List SectorCells) (ys : List (Option SectorCells)) (k : ℕ) (c : SectorCells) → k < length ys
    → with_changes cs (set ys k (Some c)) ≡ set (with_changes cs ys) k c
changed_set [] ys k c near = refl
changed_set (d ∷ cs) [] k c near = absurd (omega (arith, near))
changed_set (d ∷ cs) (y ∷ ys) zero c near = refl
changed_set (d ∷ cs) (y ∷ ys) (suc k) c near = ap (λ es. unwrap_or y d ∷ es) (changed_set cs ys k c (omega (arith, near)))

-- one more is as it was
pub changed_more : (cs : List SectorCells) (ys : List (Option SectorCells)) → with_changes cs (ys ++ None ∷ []) ≡ with_changes cs ys
changed_more [] ys = refl
changed_more (c ∷ cs) [] = ap (λ ds. c ∷ ds) (changed_none cs)
changed_more (c ∷ cs) (y ∷ ys) = ap (λ ds. unwrap_or y c ∷ ds) (changed_more cs ys)

-- or is another
pub changed_one_more : (cs : List SectorCells) (ys : List (Option SectorCells)) (c : SectorCells) → length ys < length cs
    → with_changes cs (ys ++ Some c ∷ []) ≡ set (with_changes cs ys) (length ys) c
changed_one_more [] ys c within = absurd (omega (arith, within))
changed_one_more (d ∷ cs) [] c within = ap (λ ds. c ∷ ds) (changed_none cs)
changed_one_more (d ∷ cs) (y ∷ ys) c within = ap (λ ds. unwrap_or y d ∷ ds) (changed_one_more cs ys c (omega (arith, within)))

-- what one more leaves as it is, all leave
pub same_more : (ss : List SectorData) (ys : List (Option SectorCells)) (y : Option SectorCells) (s : SectorData)
    → length ys < length ss → unwrap_or y (get_or ss (length ys) s).cells ≡ (get_or ss (length ys) s).cells
    → with_changes (map cells_of ss) ys ≡ map cells_of ss
    → with_changes (map cells_of ss) (ys ++ y ∷ []) ≡ map cells_of ss
same_more [] ys y s within one before = absurd (omega (arith, within))
same_more (t ∷ ss) [] y s within one before = λ i. one i ∷ changed_none (map cells_of ss) i
same_more (t ∷ ss) (x ∷ ys) y s within one before =
    λ i. ap (λ cs. get_or cs 0 t.cells) before i ∷ same_more ss ys y s (omega (arith, within)) one (ap tail before) i
  where
    tail : List SectorCells → List SectorCells
    tail [] = []
    tail (c ∷ cs) = cs

-- sectors in which nothing was recorded have the cells with which their windows began
pub changed_bases : (ss : List SectorData) (ys : List (Option SectorCells)) → AllByRecursion IsSector ss → AreQuiet ss ys
    → with_changes (map base_of ss) ys ≡ with_changes (map cells_of ss) ys
changed_bases [] ys sectors are = refl
changed_bases (s ∷ ss) [] sectors are = absurd are
changed_bases (s ∷ ss) (None ∷ ys) sectors are =
    let same : s.base ≡ s.cells = sym (sectors.0.cells ∙ ap (cells_after s.base) are.0) in
    λ i. same i ∷ changed_bases ss ys sectors.1 are.1 i
changed_bases (s ∷ ss) (Some c ∷ ys) sectors are = ap (λ cs. c ∷ cs) (changed_bases ss ys sectors.1 are)

module _ {X : Type 0} where
  pub as_many_quiet : (ss : List SectorData) (ys : List (Option X)) → AreQuiet ss ys → length ys ≡ length ss
  as_many_quiet [] [] are = refl
  as_many_quiet [] (y ∷ ys) are = absurd are
  as_many_quiet (s ∷ ss) [] are = absurd are
  as_many_quiet (s ∷ ss) (None ∷ ys) are = ap suc (as_many_quiet ss ys are.1)
  as_many_quiet (s ∷ ss) (Some x ∷ ys) are = ap suc (as_many_quiet ss ys are)

  -- nothing was recorded where there is nothing
  pub quiet_at : (ss : List SectorData) (ys : List (Option X)) (k : ℕ) (s : SectorData) (y : Option X) → AreQuiet ss ys → k < length ss
      → get_or ys k y ≡ None → (get_or ss k s).entries ≡ []
  quiet_at [] ys k s y are within none = absurd (omega (arith, within))
  quiet_at (t ∷ ss) [] k s y are within none = absurd are
  quiet_at (t ∷ ss) (None ∷ ys) zero s y are within none = are.0
  quiet_at (t ∷ ss) (Some x ∷ ys) zero s y are within none = cc
  quiet_at (t ∷ ss) (None ∷ ys) (suc k) s y are within none = quiet_at ss ys k s y are.1 (omega (arith, within)) none
  quiet_at (t ∷ ss) (Some x ∷ ys) (suc k) s y are within none = quiet_at ss ys k s y are (omega (arith, within)) none

  -- something in one place more
  pub quiet_set : (ss : List SectorData) (ys : List (Option X)) (k : ℕ) (x : X) → AreQuiet ss ys → AreQuiet ss (set ys k (Some x))
  quiet_set [] [] k x are = are
  quiet_set [] (y ∷ ys) k x are = absurd are
  quiet_set (s ∷ ss) [] k x are = absurd are
  quiet_set (s ∷ ss) (None ∷ ys) zero x are = are.1
  quiet_set (s ∷ ss) (Some y ∷ ys) zero x are = are
  quiet_set (s ∷ ss) (None ∷ ys) (suc k) x are = (are.0, quiet_set ss ys k x are.1)
  quiet_set (s ∷ ss) (Some y ∷ ys) (suc k) x are = quiet_set ss ys k x are

  -- one sector more
  pub quiet_more : (ss : List SectorData) (ys : List (Option X)) (s : SectorData) (y : Option X) → AreQuiet ss ys
      → (y ≡ None → s.entries ≡ []) → AreQuiet (ss ++ s ∷ []) (ys ++ y ∷ [])
  quiet_more [] [] s None are one = (one refl, tt)
  quiet_more [] [] s (Some x) are one = tt
  quiet_more [] (x ∷ ys) s y are one = absurd are
  quiet_more (t ∷ ss) [] s y are one = absurd are
  quiet_more (t ∷ ss) (None ∷ ys) s y are one = (are.0, quiet_more ss ys s y are.1 one)
  quiet_more (t ∷ ss) (Some x ∷ ys) s y are one = quiet_more ss ys s y are one
