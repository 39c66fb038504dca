use Rattle.std.proofs.Common.{◌≡◌, ℕ, ◌<◌, [], map, get_or}
use Rattle.vx_record.proofs.rests.first_left.Given as goal

-- nothing is left of the calls of the seats so far
abbrev pub invariant-loop-seat : goal.invariant-loop-seat
invariant-loop-seat l =
    (seat : ℕ) → seat < l.seat → get_or (map (λ rest. rest.now) l.rests) seat [] ≡ []
