use Rattle.std.specs.Prelude.{ℕ, Bool, true, false, ◌==◌, List, [], ◌∷◌, filter}
use Rattle.std.specs.List.{slice_split}

-- the byte of a space
abbrev pub space : ℕ
space = 32

-- there is a byte
abbrev pub is_word : List ℕ → Bool
is_word [] = false
is_word (b ∷ bs) = true

-- the words of a line: the pieces between spaces that are not empty
unfoldable pub words_of : List ℕ → List (List ℕ)
words_of line = filter is_word (slice_split (λ b. b == space) line)
