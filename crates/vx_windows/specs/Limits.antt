-- How large a world may grow.
use Rattle.std.specs.Prelude.{ℕ}
use Rattle.vx_windows.specs.declared.limits.TheConstants.{MAX_PLAYERS, MAX_TICKS}

-- how many players a world may have
abbrev pub most_players : ℕ
most_players = MAX_PLAYERS

-- how many ticks a world may have
abbrev pub most_ticks : ℕ
most_ticks = MAX_TICKS
