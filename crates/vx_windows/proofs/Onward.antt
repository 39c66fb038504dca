-- Sectors of which some go on over their cells as they are.
use Rattle.std.proofs.Common.{◌≡◌, ℕ, zero, suc, ◌<◌, ◌≤◌, Bool, true, List, [], ◌∷◌, ◌++◌, length, map, get_or, set, Option, None, Some, MatchOption, unwrap_or, refl, sym, ap, subst, ◌∙◌, arith}
use Rattle.vx_cells.specs.SectorCells.{SectorCells}
use Rattle.vx_policy.specs.declared.version.Version.{Version}
use Rattle.vx_sector.specs.SectorData.{SectorData, FreshData}
use Rattle.vx_sector.specs.Windows.{renewed}
use Rattle.vx_windows.specs.Sectors.{AreOf, IsOf, cells_of, next_of, nexts, renewed_each, window_over, with_changes}
use Rattle.vx_windows.proofs.Going.{as_many_fresh, is_of, renewed_more, still_before}

module _ (tick : ℕ) where
  pub as_many_nexts : (ss : List SectorData) (fs : List (Option FreshData)) → length fs ≤ length ss → length (nexts tick ss fs) ≡ length fs
  as_many_nexts [] [] few = refl
  as_many_nexts [] (f ∷ fs) few = absurd (omega (arith, few))
  as_many_nexts (s ∷ ss) [] few = refl
  as_many_nexts (s ∷ ss) (f ∷ fs) few = ap suc (as_many_nexts ss fs (omega (arith, few)))

  pub no_next : (ss : List SectorData) → nexts tick ss [] ≡ []
  no_next [] = refl
  no_next (s ∷ ss) = refl

  -- one sector more
  pub nexts_more : (ss : List SectorData) (fs : List (Option FreshData)) (f : Option FreshData) (s : SectorData) → length fs < length ss
      → nexts tick ss (fs ++ f ∷ []) ≡ nexts tick ss fs ++ next_of tick (get_or ss (length fs) s) f ∷ []
  nexts_more [] fs f s within = absurd (omega (arith, within))
  nexts_more (t ∷ ss) [] f s within = ap (λ ns. next_of tick t f ∷ ns) (no_next ss)
  nexts_more (t ∷ ss) (e ∷ fs) f s within = ap (λ ns. next_of tick t e ∷ ns) (nexts_more ss fs f s (omega (arith, within)))

  -- what the sector of one number begins with
  pub next_at : (ss : List SectorData) (fs : List (Option FreshData)) (k : ℕ) (s : SectorData) (o : Option FreshData) (f : FreshData)
      → k < length ss → k < length fs → get_or (nexts tick ss fs) k f ≡ next_of tick (get_or ss k s) (get_or fs k o)
  next_at [] fs k s o f within near = absurd (omega (arith, within))
  next_at (t ∷ ss) [] k s o f within near = absurd (omega (arith, near))
  next_at (t ∷ ss) (e ∷ fs) zero s o f within near = refl
  next_at (t ∷ ss) (e ∷ fs) (suc k) s o f within near = next_at ss fs k s o f (omega (arith, within)) (omega (arith, near))

-- it is of that sector
pub is_next : (tick : ℕ) (ss : List SectorData) (fs : List (Option FreshData)) (k : ℕ) (s : SectorData) (f : Option FreshData)
    → AreOf ss (nexts tick ss fs) → k < length ss → k < length fs → f ≡ get_or fs k f → IsOf (get_or ss k s) (next_of tick (get_or ss k s) f)
is_next tick ss fs k s f are within near is =
    let some : FreshData = window_over s.version s.cells in
    let many : k < length (nexts tick ss fs) = subst (λ n. k < n) (as_many_fresh ss (nexts tick ss fs) are) within in
    subst (IsOf (get_or ss k s)) (next_at tick ss fs k s f some within near ∙ ap (next_of tick (get_or ss k s)) (sym is))
    (is_of k ss (nexts tick ss fs) s some are many)

-- the sectors, of which as many as are given have begun their next windows
module _ (tick : ℕ) (ss now : List SectorData) (ys : List (Option FreshData)) where
  -- the one behind them is as it was
  pub still_there : (k : ℕ) (d : SectorData) → k ≡ length ys → length ys < length ss → now ≡ renewed_each ss (nexts tick ss ys)
      → get_or now k d ≡ get_or ss (length ys) d
  still_there k d number within so_far =
      let many = as_many_nexts tick ss ys (omega (arith, within)) in
      still_before ss now (nexts tick ss ys) k d (number ∙ sym many) so_far ∙ ap (λ n. get_or ss n d) many

  -- and may go on with what is given for it
  pub goes_on : (f : Option FreshData) (k : ℕ) (d : SectorData) → k ≡ length ys → length ys < length ss → now ≡ renewed_each ss (nexts tick ss ys)
      → set now k (renewed (get_or now k d) (next_of tick (get_or now k d) f)) ≡ renewed_each ss (nexts tick ss (ys ++ f ∷ []))
  goes_on f k d number within so_far =
      let many = as_many_nexts tick ss ys (omega (arith, within)) in
      ap (λ s. set now k (renewed (get_or now k d) (next_of tick s f))) (still_there k d number within so_far)
      ∙ renewed_more ss now (nexts tick ss ys) (next_of tick (get_or ss (length ys) d) f) k d (number ∙ sym many) so_far
      ∙ ap (renewed_each ss) (sym (nexts_more tick ss ys f d within))

-- the window over the cells of one number
pub over_at : (v : Version) (ss : List SectorData) (ys : List (Option SectorCells)) (k : ℕ) (s : SectorData) (y : Option SectorCells) (f : FreshData)
    → k < length ss → k < length ys
    → get_or (map (window_over v) (with_changes (map cells_of ss) ys)) k f ≡ window_over v (unwrap_or (get_or ys k y) (get_or ss k s).cells)
over_at v [] ys k s y f within near = absurd (omega (arith, within))
over_at v (t ∷ ss) [] k s y f within near = absurd (omega (arith, near))
over_at v (t ∷ ss) (x ∷ ys) zero s y f within near = refl
over_at v (t ∷ ss) (x ∷ ys) (suc k) s y f within near = over_at v ss ys k s y f (omega (arith, within)) (omega (arith, near))

-- what is given for a sector is what its next window begins with
pub begins_over : (v : Version) (same : Bool) (s : SectorData) (y : Option SectorCells) (f : Option FreshData)
    → (same ≡ true → record s.version { tick = v.tick } ≡ v)
    → MatchOption f ((y ≡ None) × (same ≡ true)) (λ fresh. fresh ≡ window_over v (unwrap_or y s.cells))
    → next_of v.tick s f ≡ window_over v (unwrap_or y s.cells)
begins_over v same s y None policy given = λ i. window_over (policy given.1 i) (unwrap_or (sym given.0 i) s.cells)
begins_over v same s y (Some fresh) policy given = given

-- there is nothing only where nothing changed
pub none_changed : (same : Bool) (y : Option SectorCells) (f : Option FreshData) (w : FreshData)
    → MatchOption f ((y ≡ None) × (same ≡ true)) (λ fresh. fresh ≡ w) → f ≡ None → y ≡ None
none_changed same y None w given none = given.0
none_changed same y (Some fresh) w given none = cc
