use Rattle.std.specs.Prelude.{ℕ, ◌≡◌, cond, bytes_eq, List, [], ◌∷◌, Option, None, Some}
use Rattle.std.specs.Map.{lookup}
use Rattle.vx_name.specs.Ids.{same_id}
use Rattle.vx_name.specs.declared.id.Id.{Id}
use Rattle.vx_region.specs.Regions.{Entry, global_id}

-- the number of the first region that has this id
abbrev pub first_with : List Entry → List ℕ → Option ℕ
first_with [] id = None
first_with (e ∷ es) id = cond (bytes_eq id e.1.id) (Some e.0) (first_with es id)

-- no two regions have the same id
abbrev pub HaveOwnIds : List Entry → Type 0
HaveOwnIds [] = Unit {0}
HaveOwnIds (e ∷ es) = (first_with es e.1.id ≡ None) × HaveOwnIds es

-- no region is called `__global__`
abbrev pub NoneIsGlobal : List Entry → Type 0
NoneIsGlobal entries = first_with entries global_id ≡ None

-- for each id the index has the number of the region with that id, and nothing where there is none
abbrev pub Indexes : List (Id × ℕ) → List Entry → Type 0
Indexes index entries = (id : Id) → lookup (same_id id) index ≡ first_with entries id.text.bytes
