-- The tests of two regions, and of two sets of regions, answer yes exactly where they are one, and
-- so meet the laws of `==`.
use Rattle.std.specs.Prelude.{◌≡◌, ℕ, List, Option, Some, None, refl}
use Rattle.std.specs.Bool.{Decides}
use Rattle.std.specs.Cmp.{IsEquivalence, decided}
use Rattle.std.specs.Cmp.Lexicographic.{pointwise_decides}
use Rattle.std.proofs.Common.{ap, ◌∙◌}
use Rattle.std.proofs.lemmas.Bool.{false≢true}
use Rattle.std.proofs.lemmas.Bool.Decides.{Decides-eqb, Decides-int_eq, Decides-and, Decides-like}
use Rattle.std.proofs.lemmas.Slice.Eq.{bytes_eq-Decides}
use Rattle.vx_geom.specs.OutlineLaws.{outline_decided}
use Rattle.vx_flag.specs.SettingsLaws.{settings_decided}
use Rattle.vx_region.specs.Regions.{RegionData, Entry, Regions}
use Rattle.vx_name.specs.Names.{same_names}
use Rattle.vx_region.specs.SameRegions.{same_number, same_place, same_rosters, same_region, same_entry, same_regions}

number_decided : (a b : Option ℕ) → Decides (same_number a b) (a ≡ b)
unfolding same_number
number_decided (Some a) (Some b) = Decides-like _ (λ e. ap Some e) (λ e. cc) (Decides-eqb a b)
number_decided None None = (λ e. refl, λ e. refl)
number_decided a b = (λ e. absurd (false≢true e), λ e. cc)

names_decided : (these those : List (List ℕ)) → Decides (same_names these those) (these ≡ those)
unfolding same_names
names_decided these those = pointwise_decides bytes_eq-Decides these those

SamePlace : RegionData → RegionData → Type 0
SamePlace a b =
    (((a.id ≡ b.id) × (a.shape ≡ b.shape)) × (a.priority ≡ b.priority)) × (a.parent ≡ b.parent)

place_decided : (a b : RegionData) → Decides (same_place a b) (SamePlace a b)
unfolding same_place SamePlace
place_decided a b =
    Decides-and _ _
    (Decides-and _ _
    (Decides-and _ _ (bytes_eq-Decides a.id b.id) (outline_decided a.shape b.shape))
    (Decides-int_eq a.priority b.priority))
    (number_decided a.parent b.parent)

SameRosters : RegionData → RegionData → Type 0
SameRosters a b = ((a.owners ≡ b.owners) × (a.members ≡ b.members)) × (a.domains ≡ b.domains)

rosters_decided : (a b : RegionData) → Decides (same_rosters a b) (SameRosters a b)
unfolding same_rosters SameRosters
rosters_decided a b =
    Decides-and _ _
    (Decides-and _ _ (names_decided a.owners b.owners) (names_decided a.members b.members))
    (names_decided a.domains b.domains)

region_joined : (a b : RegionData)
    → (SamePlace a b × SameRosters a b) × (a.settings ≡ b.settings) → a ≡ b
unfolding SamePlace SameRosters
region_joined a b h i = record {
  id = h.0.0.0.0.0 i;
  shape = h.0.0.0.0.1 i;
  priority = h.0.0.0.1 i;
  parent = h.0.0.1 i;
  owners = h.0.1.0.0 i;
  members = h.0.1.0.1 i;
  domains = h.0.1.1 i;
  settings = h.1 i;
}

region_parts : (a b : RegionData)
    → a ≡ b → (SamePlace a b × SameRosters a b) × (a.settings ≡ b.settings)
unfolding SamePlace SameRosters
region_parts a b e = (
  (
    (((ap (λ r. r.id) e, ap (λ r. r.shape) e), ap (λ r. r.priority) e), ap (λ r. r.parent) e),
    ((ap (λ r. r.owners) e, ap (λ r. r.members) e), ap (λ r. r.domains) e),
  ),
  ap (λ r. r.settings) e,
)

pub region_decided : (a b : RegionData) → Decides (same_region a b) (a ≡ b)
unfolding same_region
region_decided a b =
    Decides-like _ (region_joined a b) (region_parts a b)
    (Decides-and _ _
    (Decides-and _ _ (place_decided a b) (rosters_decided a b))
    (settings_decided a.settings b.settings))

pub region_equiv : IsEquivalence same_region
region_equiv = decided same_region region_decided

entry_decided : (d e : Entry) → Decides (same_entry d e) (d ≡ e)
unfolding same_entry
entry_decided d e =
    Decides-like _
    (λ h. ap (λ n. (n, d.1)) h.0 ∙ ap (λ r. (e.0, r)) h.1)
    (λ s. (ap (λ p. p.0) s, ap (λ p. p.1) s))
    (Decides-and _ _ (Decides-eqb d.0 e.0) (region_decided d.1 e.1))

pub regions_decided : (a b : Regions) → Decides (same_regions a b) (a ≡ b)
unfolding same_regions
regions_decided a b =
    Decides-like _
    (λ h i. record { last = h.0.0 i; global = h.0.1 i; entries = h.1 i })
    (λ e. ((ap (λ r. r.last) e, ap (λ r. r.global) e), ap (λ r. r.entries) e))
    (Decides-and _ _
    (Decides-and _ _ (Decides-eqb a.last b.last) (settings_decided a.global b.global))
    (pointwise_decides entry_decided a.entries b.entries))

pub regions_equiv : IsEquivalence same_regions
regions_equiv = decided same_regions regions_decided
