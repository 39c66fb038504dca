-- What sectors begin their next windows with, one after another.
use Rattle.std.proofs.Common.{◌≡◌, ℕ, zero, suc, ◌+◌, ◌<◌, List, [], ◌∷◌, ◌++◌, length, get_or, slice_get, replicate, Option, Some, None, unwrap_or, inl, inr, refl, sym, ap, ◌∙◌, subst, arith}
use Rattle.std.specs.Prelude.{slice_index_or}
use Rattle.std.proofs.lemmas.Bool.{cases_lt, true≢false}
use Rattle.std.proofs.lemmas.List.Elements.{All-nil, All-push}
use Rattle.vx_cells.specs.Maps.{MapData}
use Rattle.vx_cells.specs.SectorCells.{SectorCells}
use Rattle.vx_policy.specs.declared.version.Version.{Version}
use Rattle.vx_sector.specs.SectorData.{FreshData}
use Rattle.vx_windows.specs.Sectors.{window_over, with_changes}
use Rattle.vx_keeper.specs.Keepers.{map_by}
use Rattle.vx_keeper.specs.Marks.{AreLed, IsBegun, WorldData, is_given}
use Rattle.vx_keeper.specs.Readiness.{AreNext, IsNext}
use Rattle.vx_keeper.specs.declared.next_window.NextWindow.{NextWindow}
use Rattle.vx_keeper.proofs.Giving.{given_beside, given_last}

-- the cells of one number with what changed of them
pub changed_at : (cs : List SectorCells) (ys : List (Option SectorCells)) (n : ℕ) (c : SectorCells) (y : Option SectorCells)
    → n < length cs → length ys ≡ length cs → get_or cs n c ≡ c → y ≡ get_or ys n y
    → slice_get (with_changes cs ys) n ≡ Some (unwrap_or y c)
changed_at [] ys n c y within many here change = absurd (omega (arith, within))
changed_at (d ∷ cs) [] n c y within many here change = absurd (omega (arith, many))
changed_at (d ∷ cs) (x ∷ ys) zero c y within many here change = λ i. Some (unwrap_or (sym change i) (here i))
changed_at (d ∷ cs) (x ∷ ys) (suc n) c y within many here change =
    changed_at cs ys n c y (omega (arith, within)) (omega (arith, many)) here change

-- they stay where nothing changed of them
stays_at : (cs : List SectorCells) (ys : List (Option SectorCells)) (n : ℕ) → slice_index_or ys n None ≡ None
    → slice_get (with_changes cs ys) n ≡ slice_get cs n
stays_at [] ys n none = refl
stays_at (c ∷ cs) [] n none = refl
stays_at (c ∷ cs) (y ∷ ys) zero none = ap (λ o. Some (unwrap_or o c)) none
stays_at (c ∷ cs) (y ∷ ys) (suc n) none = stays_at cs ys n none

module _ (v : Version) (cs : List SectorCells) (ys : List (Option SectorCells)) where
  -- the next sector is given a window
  pub one_next : (k : ℕ) (all : List NextWindow) (c : SectorCells) (y : Option SectorCells) (f : FreshData)
      → AreNext v cs ys k all → k < length cs → length ys ≡ length cs → get_or cs k c ≡ c → y ≡ get_or ys k y
      → f ≡ window_over v (unwrap_or y c)
      → AreNext v cs ys (k + 1) (all ++ record { number = k; fresh = f } ∷ [])
  one_next k all c y f are within many cells change fresh =
      let w : NextWindow = record { number = k; fresh = f } in
      let here = changed_at cs ys k c y within many cells change ∙ ap (λ (g : FreshData). Some g.cells) (sym fresh) in (
        All-push (IsNext v (with_changes cs ys)) all w are.0 (here, ap (λ (g : FreshData). g.version) fresh),
        λ n below none. elim (cases_lt n k) [
          | inl before ↦ are.1 n before (sym (given_beside n w all (λ same. omega (arith, before, same))) ∙ none)
          | inr after ↦ absurd (true≢false (sym (given_last w all)
              ∙ ap (λ j. is_given j (all ++ w ∷ [])) (omega (arith, below, after)) ∙ none))
        ],
      )

-- nothing of them changes where there is nothing
pub none_change : (cs : List SectorCells) (n : ℕ) → with_changes cs (replicate n None) ≡ cs
none_change [] n = refl
none_change (c ∷ cs) zero = refl
none_change (c ∷ cs) (suc n) = ap (λ ds. c ∷ ds) (none_change cs n)

-- so the sectors of a world are led to the next one
pub led_by : (world : WorldData) (v : Version) (ys : List (Option SectorCells)) (all : List NextWindow)
    (m : MapData) → map_by world.map.sizes (with_changes world.map.sectors ys) ≡ m
    → AreNext v world.map.sectors ys (length world.map.sectors) all
    → AreLed (length world.map.sectors) world (record { map = m; version = v }) all
led_by world v ys all m after are =
    subst (λ k. AreLed (length world.map.sectors) world (record { map = k; version = v }) all) after (
      are.0,
      λ n within none. stays_at world.map.sectors ys n (are.1 n within none),
    )

-- where nothing is given, all keep their cells
pub all_keep : (world : WorldData) (v : Version) (m : MapData) → world.map ≡ m
    → AreLed (length world.map.sectors) world (record { map = m; version = v }) []
all_keep world v m same = (
  All-nil (λ (w : NextWindow). IsBegun (record { map = m; version = v }) w.number w.fresh),
  λ n within none. ap (λ (k : MapData). slice_get k.sectors n) (sym same),
)
