use Rattle.std.specs.Prelude.{◌≡◌, ℕ, Bool, true, false, ◌<◌, ◌==◌, if◌then◌else◌, List, [], ◌∷◌, ◌++◌, length, Option, Some, None}
use Rattle.std.specs.List.{onto_first, AllByRecursion}

-- the byte that ends a line
abbrev pub line_feed : ℕ
line_feed = 10

-- the lines of a script: each ends before a line feed, and a last one need not have it
abbrev pub lines_of : List ℕ → List (List ℕ)
lines_of [] = []
lines_of (b ∷ bs) = if b == line_feed then [] ∷ lines_of bs else onto_first b (lines_of bs)

-- no line feed
abbrev pub IsPiece : List ℕ → Type 0
IsPiece piece = AllByRecursion (λ b. (b == line_feed) ≡ false) piece

-- what was read is a piece, with a line feed and what is left behind it, or nothing
abbrev pub TakesPiece : Bool → List ℕ → List ℕ → List ℕ → Type 0
TakesPiece true old piece new = IsPiece piece × (old ≡ piece ++ line_feed ∷ new)
TakesPiece false old piece new = IsPiece piece × (old ≡ piece) × (new ≡ [])

-- a line is taken from what is left to read, where that is known
abbrev pub TakesLine : Option (List ℕ) → Option (List ℕ) → List ℕ → Type 0
TakesLine None new line = Unit {0}
TakesLine (Some bytes) None line = ⊥
TakesLine (Some bytes) (Some rest) line = lines_of bytes ≡ line ∷ lines_of rest

-- the next line is longer than it may be
abbrev pub IsNextLong : ℕ → List ℕ → Type 0
IsNextLong most bytes =
    (line : List ℕ) × (rest : List (List ℕ)) × (lines_of bytes ≡ line ∷ rest) × (most < length line)
