use Rattle.std.specs.Prelude.{ℕ, List, [], ◌∷◌, ◌++◌, ◌==◌, if◌then◌else◌, Option, Some, None}

-- the byte that cuts a text
abbrev pub colon : ℕ
colon = 58

-- what stands before the first colon of a text, or all of it where there is none
abbrev pub word_of : List ℕ → List ℕ
word_of [] = []
word_of (b ∷ bs) = if b == colon then [] else b ∷ word_of bs

-- what follows the first colon of a text, if there is one
abbrev pub tail_of : List ℕ → Option (List ℕ)
tail_of [] = None
tail_of (b ∷ bs) = if b == colon then Some bs else tail_of bs

-- words one after another, with a colon between each two
abbrev pub joined : List ℕ → List (List ℕ) → List ℕ
joined word [] = word
joined word (next ∷ words) = word ++ colon ∷ joined next words

-- the same, of a list of words
abbrev pub all_joined : List (List ℕ) → List ℕ
all_joined [] = []
all_joined (word ∷ words) = joined word words
