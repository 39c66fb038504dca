use Rattle.std.specs.Prelude.{ℕ, Bool, true, false, not, ◌&&◌, ◌||◌, nat_eq, nat_le, List, [], ◌∷◌, length, find, Option, Some, None, is_some}
use Rattle.std.specs.Option.{option_and_then}
use Rattle.vx_geom.specs.Written.{outline_asked}
use Rattle.vx_region.specs.Ancestry.{has_child, is_under}
use Rattle.vx_region.specs.Regions.{Regions, number_of}
use Rattle.vx_name.specs.Words.{read_id, read_name}
use Rattle.vx_policy.specs.Asked.{Asked, Define, Reshape, Remove, Parent, SetFlag, ClearFlag, Listed, target}
use Rattle.vx_policy.specs.declared.edit_refusal.EditRefusal.{EditRefusal}
use Rattle.vx_policy.specs.declared.edit_refusal.EditRefusal.TheVariants.{BadId, Known, Unknown, HasChildren, Cycle, BadShape, BadName, GlobalHasNone, TooManyRegions}

-- how many regions there may be
abbrev pub most_regions : ℕ
most_regions = 4096

-- the last number that can be given
abbrev pub last_number : ℕ
last_number = 4294967295

-- the text spells an id
abbrev pub is_id : List ℕ → Bool
is_id text = is_some (read_id text)

-- the text spells a name
abbrev pub is_name : List ℕ → Bool
is_name text = is_some (read_name text)

-- the number of the region whose id the text spells, 0 for the world at large
abbrev pub numbered : Regions → List ℕ → Option ℕ
numbered rs text = option_and_then (number_of rs) (read_id text)

-- the text spells the id of a region that is there, or of the world at large
abbrev pub is_known : Regions → List ℕ → Bool
is_known rs text = is_some (numbered rs text)

-- the test of a value that may be there, false without one
abbrev pub is_such : {A : Type 0} → (A → Bool) → Option A → Bool
is_such test None = false
is_such test (Some x) = test x

-- the text spells the id of the world at large
abbrev pub is_at_large : Regions → List ℕ → Bool
is_at_large rs text = is_such (nat_eq 0) (numbered rs text)

-- a new region is asked for
abbrev pub is_definition : Asked → Bool
is_definition (Define id shape) = true
is_definition e = false

-- a flag is to be set or cleared
abbrev pub is_of_flags : Asked → Bool
is_of_flags (SetFlag id flag setting) = true
is_of_flags (ClearFlag id flag) = true
is_of_flags e = false

-- some id that the edit names, a parent's too, passes the test
abbrev pub some_id : (List ℕ → Bool) → Asked → Bool
some_id test (Parent id parent) = test id || is_such test parent
some_id test e = test (target e)

-- the owner, member or domain that the edit names has no name's spelling
abbrev pub misspells_name : Asked → Bool
misspells_name (Listed roster id listing name) = not (is_name name)
misspells_name e = false

-- the shape that the edit names is none
abbrev pub misses_shape : Asked → Bool
misses_shape (Define id shape) = not (is_some (outline_asked shape))
misses_shape (Reshape id shape) = not (is_some (outline_asked shape))
misses_shape e = false

-- a region is to go that is another's parent
abbrev pub orphans : Regions → Asked → Bool
orphans rs (Remove id) = is_such (has_child rs) (numbered rs id)
orphans rs e = false

-- the first number is that of the second or of one of its ancestors
abbrev pub leads_back : Regions → Option ℕ → Option ℕ → Bool
leads_back rs (Some n) (Some q) = is_under rs q n
leads_back rs n q = false

-- a region is to have a parent that is itself, or that has it as an ancestor
abbrev pub closes_cycle : Regions → Asked → Bool
closes_cycle rs (Parent id parent) =
    leads_back rs (numbered rs id) (option_and_then (numbered rs) parent)
closes_cycle rs e = false

-- there are as many regions as there may be, or the last number was given
unfoldable pub is_full : Regions → Bool
is_full rs = nat_le most_regions (length rs.entries) || nat_le last_number rs.last

-- a cause stands against an edit
abbrev pub holds : Regions → Asked → EditRefusal → Bool
holds rs e BadId = some_id (λ id. not (is_id id)) e
holds rs e BadName = misspells_name e
holds rs e BadShape = misses_shape e
holds rs e Known = is_definition e && is_known rs (target e)
holds rs e Unknown = not (is_definition e) && some_id (λ id. not (is_known rs id)) e
holds rs e GlobalHasNone = not (is_of_flags e) && some_id (is_at_large rs) e
holds rs e HasChildren = orphans rs e
holds rs e Cycle = closes_cycle rs e
holds rs e TooManyRegions = is_definition e && is_full rs

-- the causes in the order in which they count
abbrev pub causes : List EditRefusal
causes =
    BadId ∷ BadName ∷ BadShape ∷ Known ∷ Unknown ∷ GlobalHasNone ∷ HasChildren ∷ Cycle
    ∷ TooManyRegions ∷ []

-- why an edit is refused: the first cause that stands against it, or none
unfoldable pub refusal : Regions → Asked → Option EditRefusal
refusal rs e = find (holds rs e) causes
