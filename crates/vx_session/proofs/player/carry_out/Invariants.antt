use Rattle.std.proofs.Common.{◌≡◌, length, take}
use Rattle.vx_session.specs.Blocks.{calls_of, AreCalled}
use Rattle.vx_session.proofs.player.carry_out.Given as goal

abbrev pub invariant-loop-request : goal.invariant-loop-request
invariant-loop-request g l =
    (l.pass.seat ≡ l.initial.pass.seat) × (length l.answers.items ≡ l.request-index)
    × AreCalled l.bounds l.initial.pass.lists (calls_of (take l.request-index l.asked) l.answers.items) l.pass.lists
