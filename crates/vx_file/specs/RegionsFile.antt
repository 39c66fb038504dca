-- What a regions file means: the edits that make its policy out of the empty one.
use Rattle.std.specs.Prelude.{◌≡◌, ℕ, pos, ◌&&◌, ◌==◌, Bool, false, if◌then◌else◌, nat_le, codes, IsUtf8, List, [], ◌∷◌, length, map, Option, Some, None}
use Rattle.toml.specs.Data.{Data, Members as Table, integer, get_member, as_str, as_array, as_table}
use Rattle.toml.specs.Parse.{parse_document}
use Rattle.vx_flag.specs.Flag.{flag_text, flags}
use Rattle.vx_flag.specs.declared.flag.Flag.{Flag}
use Rattle.vx_geom.specs.Written.{Written, Path}
use Rattle.vx_policy.specs.Asked.{Asked, Define, Priority, Parent, SetFlag, Listed}
use Rattle.vx_policy.specs.declared.listing.Listing.TheVariants.{Add}
use Rattle.vx_region.specs.declared.roster.Roster.{Roster}
use Rattle.vx_region.specs.declared.roster.Roster.TheVariants.{Owners, Members, Domains}
use Rattle.vx_region.specs.Regions.{global_id}
use Rattle.vx_file.specs.declared.file_version.FileVersion.{FileVersion}
use Rattle.vx_file.specs.declared.file_version.FileVersion.TheVariants.{One, Two}
use Rattle.vx_file.specs.FileValues.{data_of, has_only, has_only_flags, joined, number_in, numbers_in, columns_in, corners_of, heights_of, setting_in}
use Rattle.vx_base.specs.Then.{◌>>=◌}

-- the text at a key
unfoldable pub text_at : List ℕ → Table → Option (List ℕ)
text_at key ms = do
  d ← get_member key ms
  as_str d

-- what a value means that may be left out, and means no edit then
abbrev pub if_there : (Data → Option (List Asked)) → Option Data → Option (List Asked)
if_there f None = Some []
if_there f (Some d) = f d

-- what each of these values means, one after another
abbrev pub in_turn : (Data → Option (List Asked)) → List Data → Option (List Asked)
in_turn f ds = joined (map f ds)

-- the polygon with these points and heights
unfoldable pub polygon_of : Data → Data → Option Written
polygon_of points heights = do
  columns ← columns_in points
  two ← numbers_in heights
  ends ← heights_of two
  Some (Path columns ends.0 ends.1)

-- the shape that `cuboid`, `polygon` and `y` give: the first alone, or the other two
unfoldable pub shape_of : Option Data → Option Data → Option Data → Option Written
shape_of (Some cuboid) None None = numbers_in cuboid >>= corners_of
shape_of None (Some polygon) (Some y) = polygon_of polygon y
shape_of cuboid polygon y = None

-- the shape of a region
unfoldable pub shape_in : Table → Option Written
shape_in ms =
    shape_of (get_member (codes "cuboid") ms) (get_member (codes "polygon") ms)
    (get_member (codes "y") ms)

-- the keys that a region may have: `domains` from version 2 on
abbrev pub region_keys : FileVersion → List (List ℕ)
region_keys One =
    codes "id" ∷ codes "cuboid" ∷ codes "polygon" ∷ codes "y" ∷ codes "priority" ∷ codes "parent"
    ∷ codes "owners" ∷ codes "members" ∷ codes "flags" ∷ []
region_keys Two =
    codes "id" ∷ codes "cuboid" ∷ codes "polygon" ∷ codes "y" ∷ codes "priority" ∷ codes "parent"
    ∷ codes "owners" ∷ codes "members" ∷ codes "domains" ∷ codes "flags" ∷ []

-- the definition of a region, with its id and its shape
unfoldable pub definition_in : FileVersion → Table → Option Asked
definition_in version ms =
    if has_only (region_keys version) ms
    then text_at (codes "id") ms >>= (λ id. shape_in ms >>= (λ shape. Some (Define id shape)))
    else None

-- the priority of the region of that id
unfoldable pub priority_in : List ℕ → Data → Option (List Asked)
priority_in id d = do
  n ← number_in d
  Some (Priority id n ∷ [])

-- the parent of the region of that id
unfoldable pub parent_in : List ℕ → Data → Option (List Asked)
parent_in id d = do
  parent ← as_str d
  Some (Parent id (Some parent) ∷ [])

-- a value that is to be a name on that roster of the region of that id
unfoldable pub name_in : Roster → List ℕ → Data → Option (List Asked)
name_in roster id d = do
  name ← as_str d
  Some (Listed roster id Add name ∷ [])

-- an array of such names
unfoldable pub names_in : Roster → List ℕ → Data → Option (List Asked)
names_in roster id d = do
  items ← as_array d
  in_turn (name_in roster id) (data_of items)

-- what a value sets one flag to
unfoldable pub flag_in : List ℕ → Flag → Data → Option (List Asked)
flag_in id flag d = do
  setting ← setting_in d
  Some (SetFlag id flag setting ∷ [])

-- what a table sets the flags of the region of that id to, in the order of the list of flags
unfoldable pub flags_in : List ℕ → Table → Option (List Asked)
flags_in id ms =
    if has_only_flags ms
    then joined (map (λ flag. if_there (flag_in id flag) (get_member (flag_text flag) ms)) flags)
    else None

-- the same, of a value that is to be a table
unfoldable pub flags_at : List ℕ → Data → Option (List Asked)
flags_at id d = do
  ms ← as_table d
  flags_in id ms

-- the priority and the parent of the region of that id
unfoldable pub rank_in : List ℕ → Table → Option (List Asked)
rank_in id ms =
    joined (if_there (priority_in id) (get_member (codes "priority") ms)
    ∷ if_there (parent_in id) (get_member (codes "parent") ms) ∷ [])

-- its owners, its members and its domains
unfoldable pub rosters_in : List ℕ → Table → Option (List Asked)
rosters_in id ms =
    joined (if_there (names_in Owners id) (get_member (codes "owners") ms)
    ∷ if_there (names_in Members id) (get_member (codes "members") ms)
    ∷ if_there (names_in Domains id) (get_member (codes "domains") ms) ∷ [])

-- what is said of a region beside its definition
unfoldable pub changes_in : Table → Option (List Asked)
changes_in ms = do
  id ← text_at (codes "id") ms
  joined (rank_in id ms ∷ rosters_in id ms
      ∷ if_there (flags_at id) (get_member (codes "flags") ms) ∷ [])

-- the definition in a value that is to be a region's table
unfoldable pub definition_at : FileVersion → Data → Option (List Asked)
definition_at version d = do
  ms ← as_table d
  definition ← definition_in version ms
  Some (definition ∷ [])

-- what is said beside it there
unfoldable pub changes_at : Data → Option (List Asked)
changes_at d = do
  ms ← as_table d
  changes_in ms

-- these regions: first they are all defined, then the rest of each is said
unfoldable pub regions_of : FileVersion → List Data → Option (List Asked)
regions_of version ds = joined (in_turn (definition_at version) ds ∷ in_turn changes_at ds ∷ [])

-- the regions of an array
unfoldable pub regions_in : FileVersion → Data → Option (List Asked)
regions_in version d = do
  items ← as_array d
  regions_of version (data_of items)

-- the keys that the file may have
abbrev pub file_keys : List (List ℕ)
file_keys = codes "version" ∷ codes "region" ∷ codes "global" ∷ []

-- the version that a value names: the whole number 1 or 2
abbrev pub version_in : Option Data → Option FileVersion
version_in (Some (integer (pos n))) = if n == 1 then Some One else if n == 2 then Some Two else None
version_in d = None

-- the regions of a document, then the flags of the world at large
unfoldable pub contents_in : FileVersion → Table → Option (List Asked)
contents_in version ms =
    joined (if_there (regions_in version) (get_member (codes "region") ms)
    ∷ if_there (flags_at global_id) (get_member (codes "global") ms) ∷ [])

-- the edits that a document of version 1 or 2 means
unfoldable pub edits_in_table : Table → Option (List Asked)
edits_in_table ms =
    if has_only file_keys ms
    then version_in (get_member (codes "version") ms) >>= (λ version. contents_in version ms)
    else None

-- how many bytes a regions file may have
abbrev pub most_bytes : ℕ
most_bytes = 1048576

-- the edits that the bytes of a regions file mean
unfoldable pub edits_in : List ℕ → Option (List Asked)
edits_in bytes =
    if nat_le (length bytes) most_bytes then parse_document bytes >>= edits_in_table else None

-- the bytes are text, and a regions file that means these edits
abbrev pub FileSays : List ℕ → List Asked → Type 0
FileSays bytes edits = IsUtf8 bytes × (edits_in bytes ≡ Some edits)
