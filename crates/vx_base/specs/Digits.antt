-- Small numbers in decimal digits.
use Rattle.std.specs.Prelude.{ℕ, ◌+◌, nat_lt, if◌then◌else◌, List, [], ◌∷◌}

-- a number below 20, in decimal digits
abbrev pub small_word : ℕ → List ℕ
small_word n = if nat_lt n 10 then (48 + n) ∷ [] else 49 ∷ (38 + n) ∷ []
