-- The open windows of a world that was settled, and how many entries are on record.
use Rattle.std.proofs.Common.{◌≡◌, ℕ, suc, ◌<◌, List, [], ◌∷◌, length, map, Option, Some, None, option_map, unwrap_or, refl, sym, ap, ◌∙◌, subst, arith}
use Rattle.std.specs.List.{AllByRecursion, sum_by}
use Rattle.std.specs.Prelude.{slice_index_or}
use Rattle.std.proofs.lemmas.List.{length-map}
use Rattle.std.proofs.lemmas.List.Sums.{sum_by-cons}
use Rattle.vx_cells.specs.SectorCells.{SectorCells}
use Rattle.vx_policy.specs.declared.version.Version.{Version}
use Rattle.vx_region.specs.Regions.{Regions}
use Rattle.vx_sector.specs.SectorData.{SectorData}
use Rattle.vx_sector.specs.Windows.{IsWindow, count_of}
use Rattle.vx_windows.specs.Sectors.{base_of, entries_of}
use Rattle.vx_record.specs.Archives.{calls_on}
use Rattle.vx_record.specs.Chronicles.{AreSeated, AreWindows, map_after}
use Rattle.vx_record.specs.Settling.{KnownData, AreKnown, IsKnown, open_entries}
use Rattle.vx_record.proofs.Counting.{all_counted}
use Rattle.vx_keeper.specs.Keepers.{KeeperData, IsKeeper, known}
use Rattle.vx_keeper.proofs.Knowing.{held_of}
use Rattle.vx_world.specs.Settlements.{IsWindowHere}

-- where each place is known, it has a sector
all_there : (known : ℕ → KnownData) (places : List (Option SectorData))
    → ((n : ℕ) → n < length places → IsKnown (slice_index_or places n None) (known n))
    → (sectors : List SectorData) × (places ≡ map Some sectors)
all_there known [] each = ([], refl)
all_there known (None ∷ places) each = absurd (each 0 (omega arith))
all_there known (Some s ∷ places) each =
    let rest = all_there (λ n. known (suc n)) places (λ n within. each (suc n) (omega (arith, within))) in
    (s ∷ rest.0, ap (λ ps. Some s ∷ ps) rest.1)

-- the windows of sectors that this version judges, with entries from seats of these names
windows_of : (names : List (List ℕ)) (v : Version) (ss : List SectorData)
    → AllByRecursion IsWindowHere (map Some ss)
    → AllByRecursion (λ (s : SectorData). s.version ≡ v) ss
    → AllByRecursion (λ (s : SectorData). AreSeated names s.entries) ss
    → AreWindows names v.policy (map base_of ss) (map open_entries (map Some ss))
windows_of names v [] windows judged seated = tt
windows_of names v (s ∷ ss) windows judged seated = (
  subst (λ (v : Version). IsWindow v.policy s.base s.entries) judged.0 windows.0,
  seated.0,
  windows_of names v ss windows.1 judged.1 seated.1,
)

-- the open windows follow the chronicle's ticks
pub open_windows : (first : Regions) (many : ℕ) (k : KeeperData) (places : List (Option SectorData))
    → IsKeeper first many k → length places ≡ many → AreKnown (known k) places
    → AllByRecursion IsWindowHere places
    → AreWindows k.chronicle.opening.names k.world.version.policy
    (map_after k.chronicle.opening.terrain k.chronicle.ticks).sectors (map open_entries places)
open_windows first many k places keeper long each windows =
    let names = k.chronicle.opening.names in
    let rs = k.world.version.policy in
    let there = all_there (known k) places each in
    let sectors = there.0 in
    let as_many : length sectors ≡ many = sym (length-map sectors Some) ∙ sym (ap length there.1) ∙ long in
    let held = held_of first many k keeper sectors as_many (subst (AreKnown (known k)) there.1 each) in
    let here = windows_of names k.world.version sectors (subst (AllByRecursion IsWindowHere) there.1 windows) held.judged held.seated in
    let after = sym held.bases ∙ ap (λ m. m.sectors) keeper.map in
    subst (λ ps. AreWindows names rs (map_after k.chronicle.opening.terrain k.chronicle.ticks).sectors (map open_entries ps)) (sym there.1)
    (subst (λ (cs : List SectorCells). AreWindows names rs cs (map open_entries (map Some sectors))) after here)

-- how many entries the sector there has, in closed windows too
abbrev pub count_in : Option SectorData → ℕ
count_in None = 0
count_in (Some s) = count_of s

-- so many do places have that hold a sector each
counts_there : (sectors : List SectorData) → sum_by count_in (map Some sectors) ≡ sum_by count_of sectors
counts_there [] = refl
counts_there (s ∷ sectors) =
    omega (arith, sum_by-cons count_in (Some s) (map Some sectors), sum_by-cons count_of s sectors, counts_there sectors)

entries_there : (sectors : List SectorData) → map open_entries (map Some sectors) ≡ map entries_of sectors
entries_there [] = refl
entries_there (s ∷ sectors) = ap (λ rest. s.entries ∷ rest) (entries_there sectors)

count_at : {H : Type 0} (f : H → SectorData) (home : Option H)
    → unwrap_or (option_map (λ h. count_of (f h)) home) 0 ≡ count_in (option_map f home)
count_at f None = refl
count_at f (Some h) = refl

-- so many do slots have that hold these sectors
pub counts_here : {X H : Type 0} (home : X → Option H) (f : H → SectorData) (slots : List X)
    → sum_by (λ s. unwrap_or (option_map (λ h. count_of (f h)) (home s)) 0) slots
    ≡ sum_by count_in (map (λ s. option_map f (home s)) slots)
counts_here home f [] = refl
counts_here {X} home f (s ∷ slots) =
    let here : X → ℕ = λ s. unwrap_or (option_map (λ h. count_of (f h)) (home s)) 0 in
    let there : X → Option SectorData = λ s. option_map f (home s) in
    omega (
      arith,
      sum_by-cons here s slots,
      sum_by-cons count_in (there s) (map there slots),
      count_at f (home s),
      counts_here home f slots,
    )

-- all entries are those of the chronicle's windows and of the open ones
pub all_on_record : (first : Regions) (many : ℕ) (k : KeeperData) (places : List (Option SectorData))
    → IsKeeper first many k → length places ≡ many → AreKnown (known k) places
    → sum_by count_in places ≡ calls_on k.chronicle.ticks (map open_entries places)
all_on_record first many k places keeper long each =
    let there = all_there (known k) places each in
    let sectors = there.0 in
    let as_many : length sectors ≡ many = sym (length-map sectors Some) ∙ sym (ap length there.1) ∙ long in
    let held = held_of first many k keeper sectors as_many (subst (AreKnown (known k)) there.1 each) in
    ap (sum_by count_in) there.1 ∙ counts_there sectors
    ∙ all_counted k.chronicle.ticks k.counts sectors keeper.archive.total held.closed
    ∙ ap (calls_on k.chronicle.ticks) (sym (entries_there sectors) ∙ ap (map open_entries) (sym there.1))
