use Rattle.std.specs.Prelude.{◌≡◌, ◌⊎◌, ℕ, ℤ, pos, ◌+◌, Bool, if◌then◌else◌, nat_eq, bytes_eq, codes, List, [], ◌∷◌, ◌++◌, map, filter, not, find, Option, Some, None, IsSome, option_map}
use Rattle.std.specs.Option.{option_and_then}
use Rattle.vx_geom.specs.Outline.{Outline}
use Rattle.vx_flag.specs.declared.flag.Flag.{Flag}
use Rattle.vx_flag.specs.declared.setting.Setting.{Setting}
use Rattle.vx_flag.specs.declared.settings.Settings.{Settings}
use Rattle.vx_name.specs.Names.{names_with, names_without}
use Rattle.vx_flag.specs.Settings.{no_settings, setting_of, with_setting}
use Rattle.vx_region.specs.declared.roster.Roster.{Roster}
use Rattle.vx_region.specs.declared.roster.Roster.TheVariants.{Owners, Members, Domains}

-- what a region is
pub record RegionData : Type 0 where
  pub id : List ℕ
  pub shape : Outline
  pub priority : ℤ
  pub parent : Option ℕ
  pub owners : List (List ℕ)
  pub members : List (List ℕ)
  pub domains : List (List ℕ)
  pub settings : Settings

-- a region with its number
abbrev pub Entry : Type 0
Entry = ℕ × RegionData

-- the names on a roster of a region
abbrev pub names_of : Roster → RegionData → List (List ℕ)
names_of Owners r = r.owners
names_of Members r = r.members
names_of Domains r = r.domains

-- the region with other names on a roster
abbrev pub with_names : Roster → List (List ℕ) → RegionData → RegionData
with_names Owners names r = record r { owners = names }
with_names Members names r = record r { members = names }
with_names Domains names r = record r { domains = names }

-- the regions of a world in order of definition, the last number that was ever given, and the flags
-- of the world at large
pub record Regions : Type 0 where
  pub last : ℕ
  pub entries : List Entry
  pub global : Settings

-- regions of these parts
abbrev pub regions_of : ℕ → List Entry → Settings → Regions
regions_of last entries global = record { last = last; entries = entries; global = global }

-- there is no region yet
abbrev pub no_regions : Regions
no_regions = regions_of 0 [] no_settings

-- the region of a number
unfoldable pub region_at : Regions → ℕ → Option RegionData
region_at rs n = option_map (λ e. e.1) (find (λ e. nat_eq n e.0) rs.entries)

-- the id of the world at large
abbrev pub global_id : List ℕ
global_id = codes "__global__"

-- the id is that of the world at large
unfoldable pub is_global_id : List ℕ → Bool
is_global_id id = bytes_eq id global_id

-- the number of the region with this id, 0 for the world at large
unfoldable pub number_of : Regions → List ℕ → Option ℕ
number_of rs id =
    if is_global_id id then Some 0
    else option_map (λ e. e.0) (find (λ e. bytes_eq id e.1.id) rs.entries)

-- the parent of the region of a number
unfoldable pub parent_of : Regions → ℕ → Option ℕ
parent_of rs n = option_and_then (λ r. r.parent) (region_at rs n)

-- what is set for a flag in the region of a number, or in the world at large for 0
unfoldable pub setting_at : Regions → ℕ → Flag → Option Setting
setting_at rs n f =
    if nat_eq n 0 then setting_of rs.global f
    else option_and_then (λ r. setting_of r.settings f) (region_at rs n)

-- flags can be set for this number: it is 0, for the world at large, or its region is there
abbrev pub HasSettings : Regions → ℕ → Type 0
HasSettings rs n = (n ≡ 0) ⊎ IsSome (region_at rs n)

-- a region as it is when it is defined
abbrev pub fresh_region : List ℕ → Outline → RegionData
fresh_region id shape = record {
  id = id;
  shape = shape;
  priority = pos 0;
  parent = None;
  owners = [];
  members = [];
  domains = [];
  settings = no_settings;
}

-- one more region, under the number one above all that were ever given
unfoldable pub with_region : Regions → List ℕ → Outline → Regions
with_region rs id shape = record rs {
  last = rs.last + 1;
  entries = rs.entries ++ (rs.last + 1, fresh_region id shape) ∷ [];
}

-- all but the region of that number
unfoldable pub without_region : Regions → ℕ → Regions
without_region rs n = record rs { entries = filter (λ e. not (nat_eq n e.0)) rs.entries }

-- the region of that number changed, and no other
abbrev pub changed_at : (RegionData → RegionData) → ℕ → List Entry → List Entry
changed_at change n entries = map (λ e. if nat_eq n e.0 then (e.0, change e.1) else e) entries

abbrev pub changed : (RegionData → RegionData) → ℕ → Regions → Regions
changed change n rs = record rs { entries = changed_at change n rs.entries }

-- another shape
unfoldable pub with_shape : Regions → ℕ → Outline → Regions
with_shape rs n shape = changed (λ r. record r { shape = shape }) n rs

-- another priority
unfoldable pub with_priority : Regions → ℕ → ℤ → Regions
with_priority rs n priority = changed (λ r. record r { priority = priority }) n rs

-- another parent, or none
unfoldable pub with_parent : Regions → ℕ → Option ℕ → Regions
with_parent rs n parent = changed (λ r. record r { parent = parent }) n rs

-- one more name on a roster of a region, or one less
abbrev pub gaining : Roster → List ℕ → RegionData → RegionData
gaining roster name r = with_names roster (names_with (names_of roster r) name) r

abbrev pub losing : Roster → List ℕ → RegionData → RegionData
losing roster name r = with_names roster (names_without (names_of roster r) name) r

unfoldable pub with_name : Regions → ℕ → Roster → List ℕ → Regions
with_name rs n roster name = changed (gaining roster name) n rs

unfoldable pub without_name : Regions → ℕ → Roster → List ℕ → Regions
without_name rs n roster name = changed (losing roster name) n rs

-- a flag set or left unset, in the region of a number, or in the world at large for 0
unfoldable pub with_flag : Regions → ℕ → Flag → Option Setting → Regions
with_flag rs n f o =
    if nat_eq n 0 then record rs { global = with_setting rs.global f o }
    else changed (λ r. record r { settings = with_setting r.settings f o }) n rs
