-- Seats in order of their numbers.
use Rattle.std.proofs.Common.{◌≡◌, ℕ, zero, suc, ◌+◌, ◌<◌, List, [], ◌∷◌, ◌++◌, length, take, get_or, ap, arith}
use Rattle.vx_name.specs.Texts.{texts}
use Rattle.vx_name.specs.declared.name.Name.{Name}
use Rattle.vx_sector.specs.SectorData.{SeatData}
use Rattle.vx_world.specs.Openings.{seats_from}

-- with one more
pub seats_more : (n m k : ℕ) (names : List Name) (d : Name) → m ≡ n + k → k < length names
    → seats_from n (texts (take (suc k) names))
    ≡ seats_from n (texts (take k names))
    ++ record { number = m; name = (get_or names k d).text.bytes } ∷ []
seats_more n m zero (x ∷ names) d is there =
    let same : n ≡ m = omega (arith, is) in λ i. record { number = same i; name = x.text.bytes } ∷ []
seats_more n m (suc k) (x ∷ names) d is there =
    ap (λ (seats : List SeatData). record { number = n; name = x.text.bytes } ∷ seats)
    (seats_more (suc n) m k names d (omega (arith, is)) (omega (arith, there)))
seats_more n m k [] d is there = absurd (omega (arith, there))
