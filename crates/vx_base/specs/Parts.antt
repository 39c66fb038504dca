-- Entries by keys, in parts: a key stands in the part of its number.
use Rattle.std.specs.Prelude.{ℕ, ◌≡◌, ◌≢◌, Bool, cond, List, length, slice_get, Option, Some, None}
use Rattle.std.specs.List.{flat_map}
use Rattle.std.specs.Map.{lookup}

-- the entries of all parts
abbrev pub all_of : {E : Type 0} → List (List E) → List E
all_of parts = flat_map (λ part. part) parts

-- there are so many parts, and each key stands in the part of its number alone
pub record AreParted {K V : Type 0} (same : K → K → Bool) (part_of : K → ℕ) (total : ℕ) (parts : List (List (K × V))) : Type 0 where
  pub count : length parts ≡ total
  pub own : (k : ℕ) (part : List (K × V)) (key : K) → slice_get parts k ≡ Some part
      → part_of key ≢ k → lookup (same key) part ≡ None

-- the key has this value, or none, and each other key what it had
abbrev pub IsUpdated : {K V : Type 0} → (K → K → Bool) → K → Option V → List (K × V) → List (K × V) → Type 0
IsUpdated same key value old new =
    (q : _) → lookup (same q) new ≡ cond (same key q) value (lookup (same q) old)
