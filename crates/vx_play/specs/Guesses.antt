-- What is guessed of names by marks of their bytes.
use Rattle.std.specs.Prelude.{◌≡◌, ℕ, List, slice_get, slice_index_or, Some, IfSome}
use Rattle.vx_play.specs.Plays.{number_from}

-- the name of that number, where there is one, has no lower number
abbrev pub IsGuess : List (List ℕ) → ℕ → Type 0
IsGuess names number = IfSome (slice_get names number) (λ name. number_from 0 names name ≡ Some number)

-- so it is with what is guessed for each mark
abbrev pub AreGuesses : List (List ℕ) → List ℕ → Type 0
AreGuesses names guesses = (mark : ℕ) → IsGuess names (slice_index_or guesses mark 0)
