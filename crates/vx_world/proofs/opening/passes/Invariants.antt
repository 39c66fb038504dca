use Rattle.std.proofs.Common.{◌≡◌, ◌+◌, ◌*◌, [], length, map, replicate, take}
use Rattle.std.specs.List.{All}
use Rattle.std.specs.Vec.{vec_len, vec_capacity}
use Rattle.vx_name.specs.Texts.{texts}
use Rattle.vx_sector.specs.SectorData.{seat_of}
use Rattle.vx_world.specs.Openings.{seats_from}
use Rattle.vx_world.proofs.opening.passes.Given as goal

-- a pass for each seat so far, with which nothing was called
abbrev pub invariant-loop-number : goal.invariant-loop-number
invariant-loop-number g l =
    (map (λ pass. seat_of pass.seat) l.passes.items ≡ seats_from 0 (texts (take l.number l.names)))
    × (vec_len l.passes ≡ l.number)
    × (vec_capacity l.passes ≡ length l.names)
    × (l.places.parts + l.number ≡ l.fn.places.parts)
    × (l.places.amount ≡ 0)
    × (l.seats.parts + 2 * l.number ≡ 2 * length l.names)
    × (l.seats.amount ≡ 0)
    × All (λ pass. pass.lists ≡ replicate g.A.Places.all []) l.passes.items
