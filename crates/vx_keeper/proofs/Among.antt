-- Sectors in which something was recorded, among those that rest.
use Rattle.std.proofs.Common.{◌≡◌, ℕ, zero, suc, ◌<◌, List, [], ◌∷◌, length, map, set, get_or, slice_get, replicate, Option, Some, None, unwrap_or, refl, sym, ap, ◌∙◌, subst, inl, inr, arith}
use Rattle.std.specs.List.{All, AllByRecursion}
use Rattle.std.proofs.Math.Seq.{map-set}
use Rattle.std.proofs.lemmas.Bool.{cases_eq}
use Rattle.std.proofs.lemmas.Grind.{get_or-set_at}
use Rattle.std.proofs.lemmas.List.{get_or-set_other, length-map, length-set}
use Rattle.std.proofs.lemmas.List.Elements.{All-from_recursion, All-head, All-set, All-tail}
use Rattle.std.proofs.lemmas.Option.{slice_get-get_or}
use Rattle.vx_cells.specs.Maps.{AreFrom, MapData}
use Rattle.vx_cells.specs.SectorCells.{SectorCells, only_air}
use Rattle.vx_cells.proofs.MapLemmas.{placed_at}
use Rattle.vx_geom.specs.declared.pos.Pos.{Pos}
use Rattle.vx_region.specs.Regions.{Regions}
use Rattle.vx_policy.specs.declared.version.Version.{Version}
use Rattle.vx_sector.specs.SectorData.{FreshData, SectorData}
use Rattle.vx_sector.specs.Windows.{IsSector, count_of, renewed}
use Rattle.vx_sector.proofs.Places.{after_bounds, after_sector}
use Rattle.vx_windows.specs.Sectors.{AreOf, IsOf, cells_of, entries_of, renewed_each, with_changes}
use Rattle.vx_windows.specs.Writing.{IsSpared}
use Rattle.vx_record.specs.Settling.{AreKnown, IsKnown, KnownData}
use Rattle.vx_keeper.specs.Busy.{AreBusyOf, AreNextOf, resting_but, with_each}
use Rattle.vx_keeper.specs.Keepers.{IsKeeper, KeeperData, all_at_rest, known, map_by, map_now, resting}
use Rattle.vx_keeper.specs.Marks.{IsPartOf}
use Rattle.vx_keeper.proofs.Knowing.{AreAsKnown, held_of}
use Rattle.vx_keeper.proofs.Resting.{rest_each, rest_known, rest_map, rest_sectors, rest_windows}

-- there are as many as before
pub as_many : {X : Type 0} (f : SectorData → X) (xs : List X) (busy : List SectorData)
    → length (with_each f xs busy) ≡ length xs
as_many f xs [] = refl
as_many f xs (s ∷ busy) = as_many f (set xs s.base.sector (f s)) busy ∙ length-set xs s.base.sector (f s)

-- what is told of each of them may be told after they are put in
pub told_each : {X Y : Type 0} (g : X → Y) (f : SectorData → X) (xs : List X) (busy : List SectorData)
    → map g (with_each f xs busy) ≡ with_each (λ s. g (f s)) (map g xs) busy
told_each g f xs [] = refl
told_each g f xs (s ∷ busy) =
    told_each g f (set xs s.base.sector (f s)) busy
    ∙ ap (λ ys. with_each (λ t. g (f t)) ys busy) (map-set g xs s.base.sector (f s))

-- what holds of all, and of those that are put in, holds of all then
pub all_each : {X : Type 0} (P : X → Type 0) (f : SectorData → X) (xs : List X) (busy : List SectorData)
    → All P xs → All (λ s. P (f s)) busy → All P (with_each f xs busy)
all_each P f xs [] all these = all
all_each P f xs (s ∷ busy) all these =
    all_each P f (set xs s.base.sector (f s)) busy
    (All-set P xs s.base.sector (f s) (All-head (λ t. P (f t)) s busy these) all)
    (All-tail (λ t. P (f t)) s busy these)

-- a sector that is known in the place of another
known_set : (has : ℕ → KnownData) (ss : List SectorData) (n : ℕ) (s : SectorData) → n < length ss → IsKnown (Some s) (has n)
    → AreKnown has (map Some ss) → AreKnown has (map Some (set ss n s))
known_set has ss n s there is each k within =
    let many : length (map Some ss) ≡ length ss = length-map ss Some in
    let here : k < length (map Some ss) = omega (arith, within, length-map (set ss n s) Some, length-set ss n s, many) in
    elim (cases_eq k n) [
      | inl same ↦
          subst (λ o. IsKnown o (has k))
          (sym (ap (λ ps. get_or ps k None) (map-set Some ss n s)
          ∙ get_or-set_at (map Some ss) n k (Some s) None same (omega (arith, there, many))))
          (subst (λ m. IsKnown (Some s) (has m)) (sym same) is)
      | inr other ↦
          subst (λ o. IsKnown o (has k))
          (sym (ap (λ ps. get_or ps k None) (map-set Some ss n s) ∙ get_or-set_other (map Some ss) n k (Some s) None other))
          (each k here)
    ]

-- those of a world that are known, with others that are
pub known_each : (has : ℕ → KnownData) (ss busy : List SectorData)
    → All (λ (s : SectorData). (s.base.sector < length ss) × IsKnown (Some s) (has s.base.sector)) busy
    → AreKnown has (map Some ss) → AreKnown has (map Some (with_each (λ s. s) ss busy))
known_each has ss [] are each = each
known_each has ss (s ∷ busy) are each =
    let here = All-head (λ (t : SectorData). (t.base.sector < length ss) × IsKnown (Some t) (has t.base.sector)) s busy are in
    let others = All-tail (λ (t : SectorData). (t.base.sector < length ss) × IsKnown (Some t) (has t.base.sector)) s busy are in
    let many : length (set ss s.base.sector s) ≡ length ss = length-set ss s.base.sector s in
    known_each has (set ss s.base.sector s) busy
    (subst (λ n. All (λ (t : SectorData). (t.base.sector < n) × IsKnown (Some t) (has t.base.sector)) busy) (sym many) others)
    (known_set has ss s.base.sector s here.0 here.1 each)

-- cells in the place of those of one number
changed_set : (cs : List SectorCells) (ys : List (Option SectorCells)) (n : ℕ) (c : SectorCells) → length ys ≡ length cs
    → with_changes cs (set ys n (Some c)) ≡ set (with_changes cs ys) n c
changed_set [] [] n c many = refl
changed_set [] (y ∷ ys) n c many = absurd (omega (arith, many))
changed_set (d ∷ cs) [] n c many = absurd (omega (arith, many))
changed_set (d ∷ cs) (y ∷ ys) zero c many = refl
changed_set (d ∷ cs) (y ∷ ys) (suc n) c many = ap (λ ds. unwrap_or y d ∷ ds) (changed_set cs ys n c (omega (arith, many)))

-- the cells of these sectors in the places of theirs
pub changed_each : (cs : List SectorCells) (ys : List (Option SectorCells)) (busy : List SectorData) → length ys ≡ length cs
    → with_changes cs (with_each (λ (s : SectorData). Some s.cells) ys busy) ≡ with_each cells_of (with_changes cs ys) busy
changed_each cs ys [] many = refl
changed_each cs ys (s ∷ busy) many =
    changed_each cs (set ys s.base.sector (Some s.cells)) busy (length-set ys s.base.sector (Some s.cells) ∙ many)
    ∙ ap (λ ds. with_each cells_of ds busy) (changed_set cs ys s.base.sector s.cells many)

-- those of a keeper
module _ (first : Regions) (all : ℕ) (k : KeeperData) (keeper : IsKeeper first all k) (busy : List SectorData)
    (are : AreBusyOf k busy) where
  pub but_each : length (resting_but k busy) ≡ all
  but_each = as_many (λ s. s) (resting k) busy ∙ rest_each first all k keeper

  pub but_known : AreKnown (known k) (map Some (resting_but k busy))
  but_known =
      known_each (known k) (resting k) busy
      (subst (λ n. All (λ (s : SectorData). (s.base.sector < n) × IsKnown (Some s) (known k s.base.sector)) busy)
      (keeper.all ∙ sym (rest_each first all k keeper)) are.0)
      (rest_known first all k keeper)

  pub but_held : AreAsKnown k.world.version k.chronicle.opening.names k.world.map.sectors k.counts (resting_but k busy)
  but_held = held_of first all k keeper (resting_but k busy) but_each but_known

  pub but_sectors : All IsSector busy → All IsSector (resting_but k busy)
  but_sectors these = all_each IsSector (λ s. s) (resting k) busy (rest_sectors first all k keeper) these

  -- they lie where the sectors of the world do
  pub but_there : All (λ (s : SectorData). s.base.sector < length k.world.map.sectors) busy
  but_there n s within = omega (arith, (are.0 n s within).0, keeper.all, keeper.each)

-- the map after their windows
pub but_map : (first : Regions) (all : ℕ) (k : KeeperData) → IsKeeper first all k → (busy : List SectorData)
    → map_now k (resting_but k busy) ≡ map_by k.world.map.sizes (with_each cells_of k.world.map.sectors busy)
but_map first all k keeper busy =
    let cells : map cells_of (resting k) ≡ k.world.map.sectors = ap (λ m. m.sectors) (rest_map first all k keeper) in
    ap (map_by k.world.map.sizes)
    (told_each cells_of (λ s. s) (resting k) busy ∙ ap (λ cs. with_each cells_of cs busy) cells)

-- the records of their windows
pub but_windows : (first : Regions) (all : ℕ) (k : KeeperData) → IsKeeper first all k → (busy : List SectorData)
    → map entries_of (resting_but k busy) ≡ with_each entries_of (replicate (length k.counts) []) busy
but_windows first all k keeper busy =
    told_each entries_of (λ s. s) (resting k) busy ∙ ap (λ ws. with_each entries_of ws busy) (rest_windows first all k keeper)

-- what rests is spared everywhere
spared_rest : (p : Pos) (v : Version) (cs : List SectorCells) (ns : List ℕ)
    → AllByRecursion (IsSpared p) (all_at_rest v cs ns)
spared_rest p v [] ns = tt
spared_rest p v (c ∷ cs) [] = tt
spared_rest p v (c ∷ cs) (n ∷ ns) = (λ held. refl, spared_rest p v cs ns)

-- where they are spared, all are
pub but_spared : (k : KeeperData) (p : Pos) (busy : List SectorData)
    → All (IsSpared p) busy → All (IsSpared p) (resting_but k busy)
but_spared k p busy these =
    all_each (IsSpared p) (λ s. s) (resting k) busy
    (All-from_recursion (IsSpared p) (resting k) (spared_rest p k.world.version k.world.map.sectors k.counts)) these

-- a keeper that knows what it knew has of them what it had
pub still_busy : (a b : KeeperData) (busy : List SectorData) → b.chronicle ≡ a.chronicle → b.counts ≡ a.counts
    → b.world ≡ a.world → AreBusyOf a busy → AreBusyOf b busy
still_busy a b busy chronicle counts world are =
    let here : record a { seen = b.seen; is_roomy = b.is_roomy } ≡ b =
    λ i. record {
      chronicle = sym chronicle i;
      counts = sym counts i;
      world = sym world i;
      seen = b.seen;
      is_roomy = b.is_roomy;
    } in
    subst (λ k. AreBusyOf k busy) here are

-- what the next windows of known sectors are given, out of a map of the same size, is of these sectors
module _ (first : Regions) (all : ℕ) (k : KeeperData) (keeper : IsKeeper first all k) (m : MapData) (v : Version)
    (each : AreFrom m.sizes 0 m.sectors) (sizes : m.sizes ≡ k.world.map.sizes) where
  one_of : (s : SectorData) (f : FreshData) → IsSector s
      → (s.base.sector < length k.counts) × IsKnown (Some s) (known k s.base.sector)
      → slice_get m.sectors s.base.sector ≡ Some f.cells → IsOf s f
  one_of s f is are given =
      let n = s.base.sector in
      let here = placed_at m.sizes 0 n m.sectors f.cells each given in
      let own = slice_get-get_or k.world.map.sectors n (only_air k.world.map.sizes n) (omega (arith, are.0, keeper.all, keeper.each)) in
      let there = placed_at k.world.map.sizes 0 n k.world.map.sectors _ keeper.whole.each own in
      let bounds : s.cells.bounds ≡ k.world.map.sizes =
      ap (λ (d : SectorCells). d.bounds) is.cells ∙ after_bounds s.base s.entries ∙ ap (λ (d : SectorCells). d.bounds) are.1.0.0 ∙ there.0 in
      let number : s.cells.sector ≡ n = ap (λ (d : SectorCells). d.sector) is.cells ∙ after_sector s.base s.entries in
      (here.0 ∙ sizes ∙ sym bounds, omega (arith, here.1, number))

  pub all_of : (busy : List SectorData) (fs : List FreshData) → All IsSector busy
      → All (λ (s : SectorData). (s.base.sector < length k.counts) × IsKnown (Some s) (known k s.base.sector)) busy
      → AreNextOf m.sectors v busy fs → AreOf busy fs
  all_of [] [] is are given = tt
  all_of [] (f ∷ fs) is are given = absurd given
  all_of (s ∷ busy) [] is are given = absurd given
  all_of (s ∷ busy) (f ∷ fs) is are given = (
    one_of s f (All-head IsSector s busy is)
        (All-head (λ (t : SectorData). (t.base.sector < length k.counts) × IsKnown (Some t) (known k t.base.sector)) s busy are) given.0.0,
    all_of busy fs (All-tail IsSector s busy is)
        (All-tail (λ (t : SectorData). (t.base.sector < length k.counts) × IsKnown (Some t) (known k t.base.sector)) s busy are) given.1,
  )

-- so they begin their next windows with their parts of the world
part_of : (m : MapData) (v : Version) (s : SectorData) (f : FreshData) → AreFrom m.sizes 0 m.sectors
    → slice_get m.sectors s.base.sector ≡ Some f.cells → f.version ≡ v
    → IsPartOf (record { map = m; version = v }) (renewed s f)
unfolding renewed
part_of m v s f each given judged =
    let here = placed_at m.sizes 0 s.base.sector m.sectors f.cells each given in (
      ap (slice_get m.sectors) (omega (arith, here.1)) ∙ given,
      ap (λ (w : Version). record w { tick = v.tick }) judged,
    )

pub parts_next : (m : MapData) (v : Version) (busy : List SectorData) (fs : List FreshData) → AreFrom m.sizes 0 m.sectors
    → AreNextOf m.sectors v busy fs → AllByRecursion (IsPartOf (record { map = m; version = v })) (renewed_each busy fs)
parts_next m v [] [] each given = tt
parts_next m v [] (f ∷ fs) each given = absurd given
parts_next m v (s ∷ busy) [] each given = absurd given
parts_next m v (s ∷ busy) (f ∷ fs) each given =
    (part_of m v s f each given.0.0 given.0.1, parts_next m v busy fs each given.1)

count_again : (s : SectorData) (f : FreshData) → count_of (renewed s f) ≡ count_of s
unfolding renewed
count_again s f = omega arith

-- and have as many entries as before
pub counts_again : (busy : List SectorData) (fs : List FreshData) → map count_of (renewed_each busy fs) ≡ map count_of busy
counts_again [] fs = refl
counts_again (s ∷ busy) [] = refl
counts_again (s ∷ busy) (f ∷ fs) = λ i. count_again s f i ∷ counts_again busy fs i
