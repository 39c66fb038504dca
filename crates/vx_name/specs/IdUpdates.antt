-- What a change of the index of ids leaves for each id.
use Rattle.std.specs.Prelude.{ℕ, Bool, not, List, Option}
use Rattle.vx_base.specs.Parts as parts
use Rattle.vx_name.specs.declared.id.Id.{Id}
use Rattle.vx_name.specs.Ids.{same_id}

-- the id has this number, or none, and each other id what it had
abbrev pub IsUpdated : Id → Option ℕ → List (Id × ℕ) → List (Id × ℕ) → Type 0
IsUpdated id number old new = parts.IsUpdated same_id id number old new

-- whether an entry is that of another id
abbrev pub is_other : Id → Id × ℕ → Bool
is_other id entry = not (same_id id entry.0)
