-- The windows of sectors at play, as they go on record.
use Rattle.std.proofs.Common.{◌≡◌, ℕ, List, [], ◌∷◌, map, refl, subst}
use Rattle.std.specs.List.{All}
use Rattle.std.proofs.lemmas.List.Elements.{All-head, All-tail}
use Rattle.vx_policy.specs.declared.version.Version.{Version}
use Rattle.vx_sector.specs.SectorData.{SectorData}
use Rattle.vx_sector.specs.Windows.{IsSector, IsWindow}
use Rattle.vx_windows.specs.Sectors.{base_of, cells_of, entries_of}
use Rattle.vx_record.specs.Chronicles.{all_after, AreSeated, AreWindows}

-- the cells of sectors are what their entries leave
pub cells_by_entries : (ss : List SectorData) → All IsSector ss
    → map cells_of ss ≡ all_after (map base_of ss) (map entries_of ss)
cells_by_entries [] all = refl
cells_by_entries (s ∷ ss) all =
    let here = (All-head IsSector s ss all).cells in
    let there = cells_by_entries ss (All-tail IsSector s ss all) in
    λ i. here i ∷ there i

-- and their entries are windows, by the version of all
pub windows_on_record : (names : List (List ℕ)) (version : Version) (ss : List SectorData)
    → All IsSector ss → All (λ (s : SectorData). AreSeated names s.entries) ss
    → All (λ (s : SectorData). s.version ≡ version) ss
    → AreWindows names version.policy (map base_of ss) (map entries_of ss)
windows_on_record names version [] sectors seated judged = tt
windows_on_record names version (s ∷ ss) sectors seated judged =
    let by = All-head (λ (s : SectorData). s.version ≡ version) s ss judged in (
      subst (λ (v : Version). IsWindow v.policy s.base s.entries) by (All-head IsSector s ss sectors).window,
      All-head (λ (s : SectorData). AreSeated names s.entries) s ss seated,
      windows_on_record names version ss (All-tail IsSector s ss sectors)
          (All-tail (λ (s : SectorData). AreSeated names s.entries) s ss seated)
          (All-tail (λ (s : SectorData). s.version ≡ version) s ss judged),
    )
