-- What is known of all sectors.
use Rattle.std.proofs.Common.{◌≡◌, ℕ, zero, suc, ◌+◌, ◌<◌, List, [], ◌∷◌, length, map, get_or, Option, Some, None, refl, sym, ap, ◌∙◌, subst, inl, inr, arith}
use Rattle.std.specs.Prelude.{slice_index, slice_index_or}
use Rattle.std.specs.List.{All, AllByRecursion}
use Rattle.std.proofs.Math.Nat.{eq-or-lt_of_le}
use Rattle.std.proofs.lemmas.List.{length-map}
use Rattle.std.proofs.lemmas.List.Elements.{recursion_from_All}
use Rattle.vx_geom.specs.Sizes.{Sizes}
use Rattle.vx_cells.specs.Maps.{AreFrom, AreSectors}
use Rattle.vx_cells.specs.SectorCells.{SectorCells, only_air}
use Rattle.vx_policy.specs.declared.version.Version.{Version}
use Rattle.vx_region.specs.Regions.{Regions}
use Rattle.vx_sector.specs.SectorData.{SectorData}
use Rattle.vx_sector.specs.Windows.{IsSector}
use Rattle.vx_sector.proofs.Places.{after_bounds, after_sector}
use Rattle.vx_windows.specs.Sectors.{AreQuiet, base_of, cells_of, with_changes}
use Rattle.vx_windows.proofs.Changing.{changed_bases}
use Rattle.vx_record.specs.Chronicles.{AreSeated}
use Rattle.vx_record.specs.Archives.{closed_of}
use Rattle.vx_record.specs.Settling.{KnownData, AreKnown, AreKnownTo, IsKnown}
use Rattle.vx_keeper.specs.Keepers.{KeeperData, IsKeeper, known}

-- the sectors are what is known: with these bases, so many closed entries each, this version, and
-- entries from seats of these names
pub record AreAsKnown (v : Version) (names : List (List ℕ)) (cs : List SectorCells) (ns : List ℕ)
    (ss : List SectorData) : Type 0 where
  pub bases : cs ≡ map base_of ss
  pub closed : ns ≡ map closed_of ss
  pub judged : AllByRecursion (λ (s : SectorData). s.version ≡ v) ss
  pub seated : AllByRecursion (λ (s : SectorData). AreSeated names s.entries) ss

-- so they are where each is known, sector by sector
pub as_known : (v : Version) (names : List (List ℕ)) (air : ℕ → SectorCells) (cs : List SectorCells)
    (ns : List ℕ) (ss : List SectorData) → length cs ≡ length ss → length ns ≡ length ss
    → ((n : ℕ) → n < length ss → IsKnown (slice_index_or (map Some ss) n None) (record {
      base = slice_index_or cs n (air n);
      version = v;
      closed = slice_index ns n;
      names = names;
    }))
    → AreAsKnown v names cs ns ss
as_known v names air [] [] [] many counts each =
    record { bases = refl; closed = refl; judged = tt; seated = tt }
as_known v names air (c ∷ cs) ns [] many counts each = absurd (omega (arith, many))
as_known v names air [] ns (s ∷ ss) many counts each = absurd (omega (arith, many))
as_known v names air [] (n ∷ ns) [] many counts each = absurd (omega (arith, counts))
as_known v names air (c ∷ cs) [] (s ∷ ss) many counts each = absurd (omega (arith, counts))
as_known v names air (c ∷ cs) (n ∷ ns) (s ∷ ss) many counts each =
    let here = each 0 (omega arith) in
    let there = as_known v names (λ k. air (suc k)) cs ns ss (omega (arith, many)) (omega (arith, counts))
    (λ k within. each (suc k) (omega (arith, within))) in
    record {
      bases = λ i. sym here.0.0 i ∷ there.bases i;
      closed = λ i. sym here.1.0 i ∷ there.closed i;
      judged = (here.0.1, there.judged);
      seated = (here.1.1, there.seated);
    }

-- sectors that one version judges are judged by another that is the same but for its number
pub all_judged : (v w : Version) (ss : List SectorData) → AllByRecursion (λ (s : SectorData). s.version ≡ v) ss
    → record v { tick = w.tick } ≡ w → AllByRecursion (λ (s : SectorData). record s.version { tick = w.tick } ≡ w) ss
all_judged v w [] judged same = tt
all_judged v w (s ∷ ss) judged same =
    (ap (λ (u : Version). record u { tick = w.tick }) judged.0 ∙ same, all_judged v w ss judged.1 same)

-- the cells of sectors lie where their bases do
pub cells_from : (sizes : Sizes) (k : ℕ) (ss : List SectorData) → AllByRecursion IsSector ss
    → AreFrom sizes k (map base_of ss) → AreFrom sizes k (map cells_of ss)
cells_from sizes k [] all each = tt
cells_from sizes k (s ∷ ss) all each = (
  ap (λ (d : SectorCells). d.bounds) all.0.cells ∙ after_bounds s.base s.entries ∙ each.0,
  ap (λ (d : SectorCells). d.sector) all.0.cells ∙ after_sector s.base s.entries ∙ each.1,
  cells_from sizes (suc k) ss all.1 each.2,
)

-- the sectors of a keeper that are what it has of them
pub held_of : (first : Regions) (many : ℕ) (k : KeeperData) → IsKeeper first many k → (ss : List SectorData)
    → length ss ≡ many → AreKnown (known k) (map Some ss)
    → AreAsKnown k.world.version k.chronicle.opening.names k.world.map.sectors k.counts ss
held_of first many k keeper ss all each =
    as_known k.world.version k.chronicle.opening.names (only_air k.world.map.sizes) k.world.map.sectors k.counts ss
    (keeper.each ∙ sym all) (keeper.all ∙ sym all)
    (λ n within. each n (omega (arith, within, length-map ss Some)))

-- and their cells are those of a whole map
pub whole_now : (first : Regions) (many : ℕ) (k : KeeperData) → IsKeeper first many k → (ss : List SectorData)
    → length ss ≡ many → All IsSector ss → k.world.map.sectors ≡ map base_of ss
    → AreSectors k.world.map.sizes (map cells_of ss)
whole_now first many k keeper ss all sectors bases = record {
  valid = keeper.whole.valid;
  all = length-map ss cells_of ∙ all ∙ sym keeper.each ∙ keeper.whole.all;
  each =
      cells_from k.world.map.sizes 0 ss (recursion_from_All IsSector ss sectors)
      (subst (AreFrom k.world.map.sizes 0) bases keeper.whole.each);
}

-- and the cells that change in them change in what is known, where nothing else was recorded
pub changes_known : (first : Regions) (many : ℕ) (k : KeeperData) → IsKeeper first many k → (ss : List SectorData)
    → length ss ≡ many → AreKnown (known k) (map Some ss) → All IsSector ss
    → (changes : List (Option SectorCells)) → AreQuiet ss changes
    → with_changes k.world.map.sectors changes ≡ with_changes (map cells_of ss) changes
changes_known first many k keeper ss all each sectors changes quiet =
    ap (λ cs. with_changes cs changes) (held_of first many k keeper ss all each).bases
    ∙ changed_bases ss changes (recursion_from_All IsSector ss sectors) quiet

-- a sector among all
pub sector_there : (n : ℕ) (ss : List SectorData) (s : SectorData) → n < length ss
    → slice_index_or (map Some ss) n None ≡ Some (get_or ss n s)
sector_there n [] s within = absurd (omega (arith, within))
sector_there zero (t ∷ ss) s within = refl
sector_there (suc n) (t ∷ ss) s within = sector_there n ss s (omega (arith, within))

-- one more is known
pub known_more : (has : ℕ → KnownData) (places : List (Option SectorData)) (n : ℕ) → AreKnownTo n has places
    → IsKnown (slice_index_or places n None) (has n) → AreKnownTo (n + 1) has places
known_more has places n each here k within = elim (eq-or-lt_of_le {n = k} {m = n} (omega (arith, within))) [
  | inl same ↦ subst (λ m. IsKnown (slice_index_or places m None) (has m)) (sym same) here
  | inr before ↦ each k before
]
