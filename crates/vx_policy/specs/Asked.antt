use Rattle.std.specs.Prelude.{ℕ, ℤ, List, Option, option_map, string_bytes}
use Rattle.vx_flag.specs.declared.flag.Flag.{Flag}
use Rattle.vx_flag.specs.declared.setting.Setting.{Setting}
use Rattle.vx_geom.specs.Written.{Written, written}
use Rattle.vx_policy.specs.declared.edit.Edit.{Edit}
use Rattle.vx_policy.specs.declared.edit.Edit.TheVariants as edit
use Rattle.vx_policy.specs.declared.listing.Listing.{Listing}
use Rattle.vx_region.specs.declared.roster.Roster.{Roster}
use Rattle.vx_region.specs.declared.roster.Roster.TheVariants.{Owners, Members, Domains}

-- what an edit asks for: its ids, names and shapes as they are written
pub data Asked : Type 0 where
  Define : List ℕ → Written → Asked
  Reshape : List ℕ → Written → Asked
  Remove : List ℕ → Asked
  Priority : List ℕ → ℤ → Asked
  Parent : List ℕ → Option (List ℕ) → Asked
  SetFlag : List ℕ → Flag → Setting → Asked
  ClearFlag : List ℕ → Flag → Asked
  Listed : Roster → List ℕ → Listing → List ℕ → Asked

-- what an edit asks for
abbrev pub asked : Edit → Asked
asked (edit.Define id shape) = Define (string_bytes id) (written shape)
asked (edit.Reshape id shape) = Reshape (string_bytes id) (written shape)
asked (edit.Remove id) = Remove (string_bytes id)
asked (edit.Priority id priority) = Priority (string_bytes id) priority
asked (edit.Parent id parent) = Parent (string_bytes id) (option_map string_bytes parent)
asked (edit.SetFlag id flag setting) = SetFlag (string_bytes id) flag setting
asked (edit.ClearFlag id flag) = ClearFlag (string_bytes id) flag
asked (edit.Owner id listing name) = Listed Owners (string_bytes id) listing (string_bytes name)
asked (edit.Member id listing name) = Listed Members (string_bytes id) listing (string_bytes name)
asked (edit.Domain id listing name) = Listed Domains (string_bytes id) listing (string_bytes name)

-- the id that an edit names
abbrev pub target : Asked → List ℕ
target (Define id shape) = id
target (Reshape id shape) = id
target (Remove id) = id
target (Priority id priority) = id
target (Parent id parent) = id
target (SetFlag id flag setting) = id
target (ClearFlag id flag) = id
target (Listed roster id listing name) = id
