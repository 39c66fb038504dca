-- The rule of the book of stamped values, and what the step tells that adds one.
use Rattle.std.specs.Prelude.{ℕ, ◌≡◌, ◌==◌, true, List, [], ◌∷◌, ◌++◌, length, MatchBool}
use Rattle.logbook.specs.Pages.{Cell, Step, View, Book, Named}

module _ {E : Type 0} where
  -- the first word is how many were stamped; a book has two words, of which this one leaves the second at 0
  abbrev pub IsKept : List Cell → List E → Type 0
  IsKept cells log = cells ≡ (length log, true) ∷ (0, true) ∷ []

  -- the value was added to all that had been seen; or more were stamped, and were seen
  abbrev pub Adds : Step E → View E ℕ → ℕ → View E ℕ → Type 0
  Adds s v found w = MatchBool (found == s.old) (w.0 ≡ v.0 ++ s.ask ∷ []) (length w.0 ≡ found)

-- the first word of a book
abbrev pub head_of : Book → Named
head_of b = record { tracked = true; key = 0; book = b }
