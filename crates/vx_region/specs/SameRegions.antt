use Rattle.std.specs.Prelude.{ℕ, Bool, true, false, ◌&&◌, nat_eq, bytes_eq, List, Option, Some, None}
use Rattle.std.specs.Ordering.{int_eq}
use Rattle.std.specs.Cmp.Lexicographic.{pointwise}
use Rattle.vx_geom.specs.SameOutline.{same_outline}
use Rattle.vx_flag.specs.SameSettings.{same_settings}
use Rattle.vx_name.specs.Names.{same_names}
use Rattle.vx_region.specs.Regions.{RegionData, Entry, Regions}

-- the same number, or none in both
unfoldable pub same_number : Option ℕ → Option ℕ → Bool
same_number (Some a) (Some b) = nat_eq a b
same_number None None = true
same_number a b = false

-- the same id, shape, priority and parent
unfoldable pub same_place : RegionData → RegionData → Bool
same_place a b =
    bytes_eq a.id b.id && same_outline a.shape b.shape && int_eq a.priority b.priority
    && same_number a.parent b.parent

-- the same owners, members and domains
unfoldable pub same_rosters : RegionData → RegionData → Bool
same_rosters a b =
    same_names a.owners b.owners && same_names a.members b.members
    && same_names a.domains b.domains

-- the two regions are the same in every part
unfoldable pub same_region : RegionData → RegionData → Bool
same_region a b = same_place a b && same_rosters a b && same_settings a.settings b.settings

-- the same region under the same number
unfoldable pub same_entry : Entry → Entry → Bool
same_entry d e = nat_eq d.0 e.0 && same_region d.1 e.1

-- the same regions under the same numbers in the same order
abbrev pub same_entries : List Entry → List Entry → Bool
same_entries ds es = pointwise same_entry ds es

-- the same regions, the same number given last and the same flags of the world at large
unfoldable pub same_regions : Regions → Regions → Bool
same_regions a b =
    nat_eq a.last b.last && same_settings a.global b.global && same_entries a.entries b.entries
