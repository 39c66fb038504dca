-- The tick that closes the windows of sectors, on record.
use Rattle.std.proofs.Common.{◌≡◌, ℕ, ◌+◌, ◌<◌, ◌≤◌, Bool, List, [], ◌∷◌, ◌++◌, length, map, refl, sym, ap, ◌∙◌, subst, arith}
use Rattle.std.proofs.lemmas.List.{length_push}
use Rattle.std.specs.List.{All}
use Rattle.std.proofs.lemmas.List.Elements.{All-from_recursion}
use Rattle.vx_cells.specs.Maps.{MapData}
use Rattle.vx_cells.specs.Wholes.{IsMap}
use mathlib.Core.List.{IsPrefix}
use Rattle.vx_policy.specs.Asked.{Asked}
use Rattle.vx_policy.specs.Edits.{AreAccepted}
use Rattle.vx_policy.specs.declared.version.Version.{Version}
use Rattle.vx_region.specs.Regions.{Regions}
use Rattle.vx_sector.specs.SectorData.{SectorData}
use Rattle.vx_sector.specs.Windows.{IsSector, most_entries}
use Rattle.vx_tick.specs.Ticks.{fates_on, stepped}
use Rattle.vx_windows.specs.Sectors.{entries_of, first_version}
use Rattle.vx_windows.specs.Limits.{most_ticks}
use Rattle.vx_record.specs.Chronicles.{TickData, AreSeated, AreWindows, all_after, map_acted, map_after}
use Rattle.vx_record.proofs.Growing.{map_after_one_more}
use Rattle.vx_record.proofs.Recording.{cells_by_entries, windows_on_record}
use Rattle.vx_record.specs.Archives.{ArchiveData, IsArchive, IsNextTick}
use Rattle.vx_keeper.specs.Marks.{WorldData}
use Rattle.vx_keeper.specs.Keepers.{KeeperData, keeper_data, AreByEdits, IsKeeper, version_next, map_now, map_next, fates_next, chronicle_next}
use Rattle.vx_keeper.proofs.Knowing.{AreAsKnown}
use Rattle.vx_keeper.proofs.Versions.{edits_more, one_tick_more}

module _ (first : Regions) (all : ℕ) (k : KeeperData) (keeper : IsKeeper first all k) (ss : List SectorData)
    (sectors : All IsSector ss)
    (held : AreAsKnown k.world.version k.chronicle.opening.names k.world.map.sectors k.counts ss) where
  abbrev pub tick : TickData
  tick = record {
    number = length k.chronicle.ticks + 1;
    version = k.world.version;
    windows = map entries_of ss;
    fates = fates_next k ss;
  }

  -- the map after the windows, as the chronicle has it
  pub acted_now : map_acted k.world.map tick ≡ map_now k ss
  acted_now =
      let after = ap (λ cs. all_after cs (map entries_of ss)) held.bases ∙ sym (cells_by_entries ss sectors) in
      λ i. record { sizes = k.world.map.sizes; sectors = after i }

  -- it is the next tick of the chronicle
  pub is_next : IsNextTick k.chronicle tick
  is_next = record {
    on = record {
      number = refl;
      version = ap (λ (v : Version). v.tick) keeper.edits.last;
      windows =
          subst (λ (m : MapData). AreWindows k.chronicle.opening.names k.world.version.policy m.sectors (map entries_of ss))
          keeper.map
          (subst (λ cs. AreWindows k.chronicle.opening.names k.world.version.policy cs (map entries_of ss)) (sym held.bases)
          (windows_on_record k.chronicle.opening.names k.world.version ss sectors
          (All-from_recursion (λ (s : SectorData). AreSeated k.chronicle.opening.names s.entries) ss held.seated)
          (All-from_recursion (λ (s : SectorData). s.version ≡ k.world.version) ss held.judged)));
      fates =
          ap (fates_on k.world.version.policy)
          (sym acted_now ∙ ap (λ (m : MapData). map_acted m tick) keeper.map);
    };
    first = λ none. keeper.edits.begins none ∙ ap first_version (sym keeper.opening);
  }

  -- and the map after it is that of the chronicle
  pub map_after_it : map_next k ss ≡ map_after k.chronicle.opening.terrain (k.chronicle.ticks ++ tick ∷ [])
  map_after_it =
      ap (stepped k.world.version.policy) (sym acted_now ∙ ap (λ (m : MapData). map_acted m tick) keeper.map)
      ∙ sym (map_after_one_more k.chronicle.opening.terrain k.chronicle.ticks tick)

  -- so the keeper goes on
  pub keeps : (counts : List ℕ) (v : Version) (b : Bool)
      → IsArchive (chronicle_next k ss) counts → length counts ≡ all → v ≡ version_next first k
      → length k.chronicle.ticks < most_ticks
      → IsMap (map_next k ss) → length (map_next k ss).sectors ≡ all → All (λ n. n ≤ most_entries) counts
      → IsKeeper first all (record {
        chronicle = chronicle_next k ss;
        counts = counts;
        world = record { map = map_next k ss; version = v };
        seen = k.seen;
        is_roomy = b;
      })
  keeps counts v b archive many version more whole each few =
      let longer : length (k.chronicle.ticks ++ tick ∷ []) ≡ length k.chronicle.ticks + 1 = length_push k.chronicle.ticks tick in
      record {
        archive = archive;
        opening = keeper.opening;
        all = many;
        each = each;
        whole = whole;
        map = map_after_it;
        edits =
            subst (AreByEdits first k.seen (k.chronicle.ticks ++ tick ∷ [])) (sym version)
            (one_tick_more first k.seen k.chronicle.ticks tick keeper.edits refl);
        most = omega (arith, longer, more);
        few = few;
      }

-- with more or less room it is the same keeper
pub still_keeps : (first : Regions) (all : ℕ) (a b : ArchiveData) (world : WorldData)
    (seen : List Asked) → b.chronicle ≡ a.chronicle → b.counts ≡ a.counts
    → IsKeeper first all (keeper_data a world seen) → IsKeeper first all (keeper_data b world seen)
still_keeps first all a b world seen chronicle counts h =
    let roomed : IsKeeper first all (record (keeper_data a world seen) { is_roomy = b.is_roomy }) =
    record {
      archive = h.archive;
      opening = h.opening;
      all = h.all;
      each = h.each;
      whole = h.whole;
      map = h.map;
      edits = h.edits;
      most = h.most;
      few = h.few;
    } in
    subst (IsKeeper first all)
    (λ i. record {
      chronicle = sym chronicle i;
      counts = sym counts i;
      world = world;
      seen = seen;
      is_roomy = b.is_roomy;
    })
    roomed

-- and so it is when it has seen more edits
pub sees_more : (first : Regions) (all : ℕ) (a : ArchiveData) (world : WorldData)
    (seen later : List Asked) → IsPrefix seen later → AreAccepted first later
    → IsKeeper first all (keeper_data a world seen) → IsKeeper first all (keeper_data a world later)
sees_more first all a world seen later more accepted h = record {
  archive = h.archive;
  opening = h.opening;
  all = h.all;
  each = h.each;
  whole = h.whole;
  map = h.map;
  edits = edits_more first seen later a.chronicle.ticks world.version more accepted h.edits;
  most = h.most;
  few = h.few;
}
