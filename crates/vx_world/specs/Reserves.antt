-- How many calls a pass has in reserve.
use Rattle.std.specs.Prelude.{ℕ}

-- the most that it has
abbrev pub most_reserved : ℕ
most_reserved = 64
