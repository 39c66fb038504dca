-- What the windows of a tick leave on its map.
use Rattle.std.proofs.Common.{◌≡◌, ℕ, zero, suc, List, [], ◌∷◌, ◌++◌, length, slice_get, Option, Some, None, refl, sym, ap, ◌∙◌, subst, inl, inr}
use Rattle.std.specs.List.{All}
use Rattle.std.proofs.lemmas.List.Elements.{All-nil, All-cons, All-head, All-tail}
use Rattle.vx_base.proofs.Lists.{item_there}
use Rattle.vx_geom.specs.declared.pos.Pos.{Pos}
use Rattle.vx_geom.specs.Sizes.{Sizes, AreSizes, sector_of}
use Rattle.vx_cells.specs.MapLaws.{block_in, block_on, IsFilled}
use Rattle.vx_cells.specs.Maps.{MapData, AreFrom, sector_at}
use Rattle.vx_cells.specs.SectorCells.{SectorCells, Block, IsWhole}
use Rattle.vx_cells.proofs.MapLemmas.{placed_at, is_held, is_there}
use Rattle.vx_region.specs.Regions.{Regions}
use Rattle.vx_sector.specs.SectorData.{EntryData}
use Rattle.vx_sector.specs.Windows.{IsWindow, cells_after}
use Rattle.vx_record.specs.Chronicles.{TickData, AreSeated, all_after, map_acted, AreWindows}
use Rattle.vx_windows.proofs.Sparing.{of_found}
use Rattle.vx_record.specs.Owners.{as_built, EachCommandHasLeave, IsByWindow, IsStepByStep}
use Rattle.vx_record.proofs.Commanded.{window_keeps, entry_leaves}

module _ (names : List (List ℕ)) (policy : Regions) where
  -- the window of the sector of a number
  pub record HasWindow (cs : List SectorCells) (windows : List (List EntryData)) (k : ℕ) (c : SectorCells) : Type 0 where
    pub window : List EntryData
    pub recorded : slice_get windows k ≡ Some window
    pub after : slice_get (all_after cs windows) k ≡ Some (cells_after c window)
    pub is : IsWindow policy c window
    pub seated : AreSeated names window

  further : (d c : SectorCells) (cs : List SectorCells) (w : List EntryData) (windows : List (List EntryData)) (k : ℕ)
      → HasWindow cs windows k c → HasWindow (d ∷ cs) (w ∷ windows) (suc k) c
  further d c cs w windows k has =
      record { window = has.window; recorded = has.recorded; after = has.after; is = has.is; seated = has.seated }

  pub window_at : (cs : List SectorCells) (windows : List (List EntryData)) (k : ℕ) (c : SectorCells)
      → AreWindows names policy cs windows → slice_get cs k ≡ Some c → HasWindow cs windows k c
  window_at [] windows k c are found = cc
  window_at (d ∷ cs) [] k c are found = absurd are
  window_at (d ∷ cs) (w ∷ windows) zero c are found =
      let same : d ≡ c = cc in
      record {
        window = w;
        recorded = refl;
        after = ap (λ e. Some (cells_after e w)) same;
        is = subst (λ e. IsWindow policy e w) same are.0;
        seated = are.1;
      }
  window_at (d ∷ cs) (w ∷ windows) (suc k) c are found =
      further d c cs w windows k (window_at cs windows k c are.2 found)

  as_many : (cs : List SectorCells) (windows : List (List EntryData)) → AreWindows names policy cs windows
      → length (all_after cs windows) ≡ length cs
  as_many [] windows are = refl
  as_many (c ∷ cs) [] are = absurd are
  as_many (c ∷ cs) (w ∷ windows) are = ap suc (as_many cs windows are.2)

  all_whole : (cs : List SectorCells) (windows : List (List EntryData)) → AreWindows names policy cs windows
      → All IsWhole cs → All IsWhole (all_after cs windows)
  all_whole [] windows are whole = All-nil IsWhole
  all_whole (c ∷ cs) [] are whole = absurd are
  all_whole (c ∷ cs) (w ∷ windows) are whole =
      All-cons IsWhole (cells_after c w) (all_after cs windows)
      (window_keeps names policy c w (All-head IsWhole c cs whole) are.0).0
      (all_whole cs windows are.2 (All-tail IsWhole c cs whole))

  all_placed : (sizes : Sizes) (k : ℕ) (cs : List SectorCells) (windows : List (List EntryData))
      → AreWindows names policy cs windows → All IsWhole cs → AreFrom sizes k cs → AreFrom sizes k (all_after cs windows)
  all_placed sizes k [] windows are whole each = tt
  all_placed sizes k (c ∷ cs) [] are whole each = absurd are
  all_placed sizes k (c ∷ cs) (w ∷ windows) are whole each =
      let kept = window_keeps names policy c w (All-head IsWhole c cs whole) are.0 in (
        kept.1 ∙ each.0,
        kept.2 ∙ each.1,
        all_placed sizes (suc k) cs windows are.2 (All-tail IsWhole c cs whole) each.2,
      )

  -- each sector stays in its place, with something at each place of it
  pub acted_filled : (m : MapData) (tick : TickData) → IsFilled m → AreWindows names policy m.sectors tick.windows
      → IsFilled (map_acted m tick)
  acted_filled m tick filled are = record {
    map = record {
      valid = filled.map.valid;
      all = as_many m.sectors tick.windows are ∙ filled.map.all;
      each = all_placed m.sizes 0 m.sectors tick.windows are filled.each filled.map.each;
    };
    each = all_whole m.sectors tick.windows are filled.each;
  }

module _ (names : List (List ℕ)) (m : MapData) (tick : TickData) (filled : IsFilled m)
    (are : AreWindows names tick.version.policy m.sectors tick.windows) where
  -- each command leaves what stands at a position, or is one there by leave
  pub commands_have_leave : (p : Pos) → EachCommandHasLeave names m tick p
  commands_have_leave p c earlier e later at =
      let has = window_at names tick.version.policy m.sectors tick.windows at.number c are at.begun in
      let both : Some has.window ≡ Some (earlier ++ e ∷ later) = sym has.recorded ∙ at.recorded in
      let same : has.window ≡ earlier ++ e ∷ later = cc in
      let placed = placed_at m.sizes 0 at.number m.sectors c filled.map.each at.begun in
      entry_leaves names tick.version.policy c earlier e later p (subst AreSizes (sym placed.0) filled.map.valid)
      (of_found IsWhole m.sectors at.number c filled.each at.begun)
      (is_held m p at.number at.sector c filled.map at.begun)
      (subst (IsWindow tick.version.policy c) same has.is) (subst (AreSeated names) same has.seated)

  -- and these commands are all that is done there
  pub acted_step_by_step : (p : Pos) → IsStepByStep m tick p
  unfolding block_on
  acted_step_by_step p = by (sector_of m.sizes p) refl
    where
      stands_in : List SectorCells → Option ℕ → Block
      stands_in cs k = as_built (block_in (sector_at cs k) p)

      after : List SectorCells
      after = all_after m.sectors tick.windows

      found : (k : ℕ) (c : SectorCells) → sector_of m.sizes p ≡ Some k → slice_get m.sectors k ≡ Some c → IsByWindow m tick p
      found k c number there =
          let has = window_at names tick.version.policy m.sectors tick.windows k c are there in
          record {
            cells = c;
            window = has.window;
            found = record { number = k; sector = number; begun = there; recorded = has.recorded };
            begun = ap (stands_in m.sectors) number ∙ ap (λ o. as_built (block_in o p)) there;
            ended = ap (stands_in after) number ∙ ap (λ o. as_built (block_in o p)) has.after;
          }

      by : (k : Option ℕ) → sector_of m.sizes p ≡ k → IsStepByStep m tick p
      by None number = inr (number, ap (stands_in after) number ∙ sym (ap (stands_in m.sectors) number))
      by (Some k) number =
          let there = item_there m.sectors k (is_there m.sizes m.sectors p k number filled.map) in
          inl (found k there.0 number there.1)
