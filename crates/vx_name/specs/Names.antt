-- Lists of names, as texts.
use Rattle.std.specs.Prelude.{ℕ, Bool, not, if◌then◌else◌, bytes_eq, List, [], ◌∷◌, ◌++◌, filter}
use Rattle.std.specs.Cmp.Lexicographic.{pointwise}
use Rattle.std.specs.List.{list_any}

-- the name is among these
abbrev pub names : List (List ℕ) → List ℕ → Bool
names texts text = list_any (bytes_eq text) texts

-- these and the name, once
abbrev pub names_with : List (List ℕ) → List ℕ → List (List ℕ)
names_with texts text = if names texts text then texts else texts ++ text ∷ []

-- these without the name
abbrev pub names_without : List (List ℕ) → List ℕ → List (List ℕ)
names_without texts text = filter (λ t. not (bytes_eq text t)) texts

-- the same names in the same order
unfoldable pub same_names : List (List ℕ) → List (List ℕ) → Bool
same_names these those = pointwise bytes_eq these those
