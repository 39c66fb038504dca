-- How a world opens.
use Rattle.std.specs.Prelude.{ℕ, suc, List, [], ◌∷◌}
use Rattle.vx_sector.specs.SectorData.{SeatData}

-- the seats of these names, numbered from n on
abbrev pub seats_from : ℕ → List (List ℕ) → List SeatData
seats_from n [] = []
seats_from n (name ∷ names) = record { number = n; name = name } ∷ seats_from (suc n) names
