-- How many children each region has, and the counts of them that a set keeps by id.
use Rattle.std.specs.Prelude.{ℕ, ◌+◌, ◌-◌, ◌≡◌, Bool, cond, List, [], ◌∷◌, Option, None, Some, unwrap_or}
use Rattle.std.specs.Map.{lookup}
use Rattle.vx_name.specs.declared.id.Id.{Id}
use Rattle.vx_region.specs.Ancestry.{is_number}
use Rattle.vx_name.specs.Ids.{same_id}
use Rattle.vx_region.specs.IdIndex.{first_with}
use Rattle.vx_region.specs.Regions.{Entry}

-- one where it is so, and else none
abbrev pub one_if : Bool → ℕ
one_if b = cond b 1 0

-- how many regions have the region of this number as their parent
abbrev pub children : ℕ → List Entry → ℕ
children n [] = 0
children n (e ∷ es) = one_if (is_number n e.1.parent) + children n es

-- and none where there is no number
abbrev pub children_of : List Entry → Option ℕ → ℕ
children_of es None = 0
children_of es (Some n) = children n es

-- the count of an id, 0 for one that has none
abbrev pub counted : List (Id × ℕ) → Id → ℕ
counted counts id = unwrap_or (lookup (same_id id) counts) 0

-- for the id of each of these regions, the counts have how many children it has among those, and 0
-- for each other id
abbrev pub Count : List (Id × ℕ) → List Entry → List Entry → Type 0
Count counts entries among =
    (id : Id) → counted counts id ≡ children_of among (first_with entries id.text.bytes)

-- the id has one more, and each other id what it had
abbrev pub HasOneMore : Id → List (Id × ℕ) → List (Id × ℕ) → Type 0
HasOneMore id old new = (q : Id) → counted new q ≡ counted old q + one_if (same_id id q)

-- the id has one less, or still 0, and each other id what it had
abbrev pub HasOneLess : Id → List (Id × ℕ) → List (Id × ℕ) → Type 0
HasOneLess id old new = (q : Id) → counted new q ≡ counted old q - one_if (same_id id q)

-- the id is that of the region of the number, and of no other region
abbrev pub IsIdOf : Id → ℕ → List Entry → Type 0
IsIdOf id n entries =
    (q : Id) → same_id id q ≡ is_number n (first_with entries q.text.bytes)
