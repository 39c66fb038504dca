use Rattle.std.specs.Prelude.{ℕ, ◌≡◌, List, Some}
use Rattle.vx_name.specs.Words.{IsName, IsId, read_name, read_id}

-- what is read is a name
abbrev pub NameIsRead : Type 0
NameIsRead = (text name : List ℕ) → read_name text ≡ Some name → IsName name

-- and a name is read as itself
abbrev pub NameReadsAsItself : Type 0
NameReadsAsItself = (name : List ℕ) → IsName name → read_name name ≡ Some name

-- what is read is an id
abbrev pub IdIsRead : Type 0
IdIsRead = (text id : List ℕ) → read_id text ≡ Some id → IsId id

-- and an id is read as itself
abbrev pub IdReadsAsItself : Type 0
IdReadsAsItself = (id : List ℕ) → IsId id → read_id id ≡ Some id
