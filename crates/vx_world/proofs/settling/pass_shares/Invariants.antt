use Rattle.std.proofs.Common.{◌≡◌, ◌*◌, length}
use Rattle.std.specs.List.{sum_by}
use Rattle.vx_record.specs.Calls.{calls_in}
use Rattle.vx_world.proofs.settling.pass_shares.Given as goal

-- the shares so far are joined
abbrev pub invariant-loop-pass : goal.invariant-loop-pass
invariant-loop-pass g l =
    (l.places.parts ≡ length l.yielded) × (l.places.amount ≡ 0)
    × (l.seats.parts ≡ 2 * length l.yielded)
    × (l.seats.amount ≡ sum_by (λ pass. calls_in pass.lists) l.yielded)
