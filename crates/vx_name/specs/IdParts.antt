-- Ids in parts, of whatever has ids.
use Rattle.std.specs.Prelude.{ℕ, ◌+◌, ◌*◌, ◌/◌, ◌%◌, nat_eq, cond, List, map}
use Rattle.std.specs.List.{fold}
use Rattle.vx_base.specs.Parts as parts
use Rattle.vx_base.specs.Parts.{all_of}
use Rattle.vx_name.specs.declared.id.Id.{Id}
use Rattle.vx_name.specs.declared.id_numbers.TheConstants.{HASHES}
use Rattle.vx_name.specs.declared.parted.TheConstants.{PARTS, INNER}
use Rattle.vx_name.specs.Ids.{same_id}

-- a hash, with one more byte of an id
abbrev pub hash_step : ℕ → ℕ → ℕ
hash_step hash byte = (hash * 13 + byte) % HASHES

-- the hash of an id of these bytes
unfoldable pub hash_of : List ℕ → ℕ
hash_of bytes = fold hash_step 0 bytes

-- the hash of an id
abbrev pub hash_of_id : Id → ℕ
hash_of_id id = hash_of id.text.bytes

-- the number of the part in which an id of that hash stands, by the level of the parts
unfoldable pub part_of : ℕ → ℕ → ℕ
part_of level hash = cond (nat_eq level INNER) hash (hash / PARTS) % PARTS

-- the number of an id's part
abbrev pub part_of_id : ℕ → Id → ℕ
part_of_id level id = part_of level (hash_of_id id)

-- some ids with their numbers
abbrev pub IdList : Type 0
IdList = List (Id × ℕ)

-- the ids of all parts
abbrev pub ids_of : {P : Type 0} → (P → IdList) → List P → IdList
ids_of ids held = all_of (map ids held)

-- each id stands in its own part alone
abbrev pub AreParted : {P : Type 0} → (P → IdList) → ℕ → List P → Type 0
AreParted ids level held = parts.AreParted same_id (part_of_id level) PARTS (map ids held)
