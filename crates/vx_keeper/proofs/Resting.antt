-- Sectors that rest.
use Rattle.std.proofs.Common.{◌≡◌, ℕ, zero, suc, ◌+◌, ◌<◌, ◌≤◌, Bool, List, [], ◌∷◌, length, map, replicate, Some, None, zero-add, refl, sym, ap, ◌∙◌, subst, arith}
use Rattle.std.specs.Prelude.{slice_index, slice_index_or}
use Rattle.std.specs.List.{All, AllByRecursion}
use Rattle.std.proofs.lemmas.List.{length-map}
use Rattle.std.proofs.lemmas.List.Elements.{All-from_recursion, recursion_from_All}
use Rattle.vx_cells.specs.Wholes.{IsMap}
use Rattle.vx_cells.specs.SectorCells.{SectorCells, only_air}
use Rattle.vx_policy.specs.declared.version.Version.{Version}
use Rattle.vx_region.specs.Regions.{Regions}
use Rattle.vx_geom.specs.declared.pos.Pos.{Pos}
use Rattle.vx_tick.specs.declared.fate.Fate.{Fate}
use Rattle.vx_sector.specs.SectorData.{EntryData}
use Rattle.vx_sector.specs.Windows.{IsSector, count_of, most_entries}
use Rattle.vx_windows.specs.Sectors.{cells_of, entries_of}
use Rattle.vx_windows.specs.Limits.{most_ticks}
use Rattle.vx_record.specs.Archives.{IsArchive, IsNextTick, next_counts}
use Rattle.vx_record.specs.Chronicles.{TickData}
use Rattle.vx_record.specs.Settling.{AreKnown, IsKnown}
use Rattle.vx_record.proofs.Counting.{archive_grown, next_empty}
use Rattle.vx_keeper.specs.Keepers.{KeeperData, IsKeeper, all_at_rest, chronicle_next, fates_next, known, map_by, map_next, map_now, resting, version_next}
use Rattle.vx_keeper.proofs.Closing.{is_next, keeps, tick}
use Rattle.vx_keeper.proofs.Knowing.{AreAsKnown}

module _ (v : Version) where
  as_many : (cs : List SectorCells) (ns : List ℕ) → length cs ≡ length ns → length (all_at_rest v cs ns) ≡ length cs
  as_many [] ns many = refl
  as_many (c ∷ cs) [] many = absurd (omega (arith, many))
  as_many (c ∷ cs) (n ∷ ns) many = ap suc (as_many cs ns (omega (arith, many)))

  -- they are what is known of them
  held : (names : List (List ℕ)) (cs : List SectorCells) (ns : List ℕ) → length cs ≡ length ns
      → AreAsKnown v names cs ns (all_at_rest v cs ns)
  held names [] [] many = record { bases = refl; closed = refl; judged = tt; seated = tt }
  held names [] (n ∷ ns) many = absurd (omega (arith, many))
  held names (c ∷ cs) [] many = absurd (omega (arith, many))
  held names (c ∷ cs) (n ∷ ns) many =
      let there = held names cs ns (omega (arith, many)) in
      record {
        bases = λ i. c ∷ there.bases i;
        closed = λ i. n ∷ there.closed i;
        judged = (refl, there.judged);
        seated = (λ k d within. absurd (omega (arith, within)), there.seated);
      }

  each_known : (names : List (List ℕ)) (air : ℕ → SectorCells) (cs : List SectorCells) (ns : List ℕ)
      → length cs ≡ length ns → (n : ℕ) → n < length cs
      → IsKnown (slice_index_or (map Some (all_at_rest v cs ns)) n None) (record {
        base = slice_index_or cs n (air n);
        version = v;
        closed = slice_index ns n;
        names = names;
      })
  each_known names air [] ns many n within = absurd (omega (arith, within))
  each_known names air (c ∷ cs) [] many n within = absurd (omega (arith, many))
  each_known names air (c ∷ cs) (m ∷ ns) many zero within = ((refl, refl), (refl, λ k d near. absurd (omega (arith, near))))
  each_known names air (c ∷ cs) (m ∷ ns) many (suc n) within =
      each_known names (λ k. air (suc k)) cs ns (omega (arith, many)) n (omega (arith, within))

  cells : (cs : List SectorCells) (ns : List ℕ) → length cs ≡ length ns → map cells_of (all_at_rest v cs ns) ≡ cs
  cells [] ns many = refl
  cells (c ∷ cs) [] many = absurd (omega (arith, many))
  cells (c ∷ cs) (n ∷ ns) many = ap (λ ds. c ∷ ds) (cells cs ns (omega (arith, many)))

  windows : (cs : List SectorCells) (ns : List ℕ) → length cs ≡ length ns
      → map entries_of (all_at_rest v cs ns) ≡ replicate (length ns) []
  windows [] [] many = refl
  windows [] (n ∷ ns) many = absurd (omega (arith, many))
  windows (c ∷ cs) [] many = absurd (omega (arith, many))
  windows (c ∷ cs) (n ∷ ns) many = ap (λ ws. [] ∷ ws) (windows cs ns (omega (arith, many)))

  counts : (cs : List SectorCells) (ns : List ℕ) → length cs ≡ length ns → map count_of (all_at_rest v cs ns) ≡ ns
  counts [] [] many = refl
  counts [] (n ∷ ns) many = absurd (omega (arith, many))
  counts (c ∷ cs) [] many = absurd (omega (arith, many))
  counts (c ∷ cs) (n ∷ ns) many = λ i. zero-add n i ∷ counts cs ns (omega (arith, many)) i

  each_is : (cs : List SectorCells) (ns : List ℕ) → AllByRecursion (λ n. n ≤ most_entries) ns
      → AllByRecursion IsSector (all_at_rest v cs ns)
  each_is [] ns few = tt
  each_is (c ∷ cs) [] few = tt
  each_is (c ∷ cs) (n ∷ ns) few = (record { window = tt; cells = refl; most = omega (arith, few.0) }, each_is cs ns few.1)

-- those of a keeper
module _ (first : Regions) (all : ℕ) (k : KeeperData) (keeper : IsKeeper first all k) where
  same : length k.world.map.sectors ≡ length k.counts
  same = keeper.each ∙ sym keeper.all

  pub rest_each : length (resting k) ≡ all
  rest_each = as_many k.world.version k.world.map.sectors k.counts same ∙ keeper.each

  pub rest_known : AreKnown (known k) (map Some (resting k))
  rest_known n within =
      each_known k.world.version k.chronicle.opening.names (only_air k.world.map.sizes) k.world.map.sectors k.counts same n
      (omega (arith, within, length-map (resting k) Some, rest_each, keeper.each))

  pub rest_held : AreAsKnown k.world.version k.chronicle.opening.names k.world.map.sectors k.counts (resting k)
  rest_held = held k.world.version k.chronicle.opening.names k.world.map.sectors k.counts same

  pub rest_sectors : All IsSector (resting k)
  rest_sectors =
      All-from_recursion IsSector (resting k)
      (each_is k.world.version k.world.map.sectors k.counts (recursion_from_All (λ n. n ≤ most_entries) k.counts keeper.few))

  -- the map is as it was
  pub rest_map : map_now k (resting k) ≡ k.world.map
  rest_map = ap (map_by k.world.map.sizes) (cells k.world.version k.world.map.sectors k.counts same)

  pub rest_windows : map entries_of (resting k) ≡ replicate (length k.counts) []
  rest_windows = windows k.world.version k.world.map.sectors k.counts same

  pub rest_counts : map count_of (resting k) ≡ k.counts
  rest_counts = counts k.world.version k.world.map.sectors k.counts same

  -- the tick of them all is the next of the chronicle
  abbrev pub rest_tick : TickData
  rest_tick = tick first all k keeper (resting k) rest_sectors rest_held

  pub rest_is_next : IsNextTick k.chronicle rest_tick
  rest_is_next = is_next first all k keeper (resting k) rest_sectors rest_held

  -- as it is told with its windows, of which none has an entry
  pub rest_told : (n : ℕ) (v : Version) (ws : List (List EntryData)) (fs : List (Pos × Fate)) → n ≡ length k.chronicle.ticks + 1
      → v ≡ k.world.version → ws ≡ replicate (length k.counts) [] → fs ≡ fates_next k (resting k)
      → record { number = n; version = v; windows = ws; fates = fs } ≡ rest_tick
  rest_told n v ws fs number version empty fates =
      let windows = empty ∙ sym rest_windows in
      λ i. record { number = number i; version = version i; windows = windows i; fates = fates i }

  -- and its entries leave the counts as they were
  pub rest_counted : (ns : List ℕ) (ws : List (List EntryData)) → ns ≡ k.counts → ws ≡ replicate (length k.counts) []
      → next_counts ns ws ≡ k.counts
  rest_counted ns ws same empty = (λ i. next_counts (same i) (empty i)) ∙ next_empty k.counts

  -- and the keeper goes on
  pub rest_keeps : (v : Version) (b : Bool) → v ≡ version_next first k → length k.chronicle.ticks < most_ticks
      → IsMap (map_next k (resting k)) → length (map_next k (resting k)).sectors ≡ all
      → IsKeeper first all (record {
        chronicle = chronicle_next k (resting k);
        counts = k.counts;
        world = record { map = map_next k (resting k); version = v };
        seen = k.seen;
        is_roomy = b;
      })
  rest_keeps v b version more whole each =
      let counted : next_counts k.counts (map entries_of (resting k)) ≡ k.counts =
      ap (next_counts k.counts) rest_windows ∙ next_empty k.counts in
      let archive = subst (IsArchive (chronicle_next k (resting k))) counted
      (archive_grown k.chronicle k.counts rest_tick keeper.archive rest_is_next
      (length-map (resting k) entries_of ∙ rest_each ∙ sym keeper.all)) in
      keeps first all k keeper (resting k) rest_sectors rest_held k.counts v b archive keeper.all version more whole each keeper.few
