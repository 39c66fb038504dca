use Rattle.std.proofs.Common.{◌≡◌, ◌+◌, ◌<◌, IfOk, length, map, subst, arith}
use Rattle.std.specs.List.{between}
use Rattle.std.proofs.Math.Nat.{mul-pos}
use Rattle.vx_cause.specs.Judging.{denial}
use Rattle.vx_geom.specs.Sizes.{sector_count}
use Rattle.vx_step.specs.Shares.{first_of, AreFromTo}
use Rattle.vx_step.proofs.Sharing.{even_parts}
use Rattle.vx_step.proofs.ending_parts.denials_by.Goals as goal

pub returns : goal.returns
returns g c =
    let n = sector_count c.args.bounds in
    let moves = c.args.moves.now in
    let sizes = c.soundness.ensures in
    let some : 0 < n = mul-pos (omega (arith, sizes.sx_least)) (omega (arith, sizes.sz_least)) in
    let pieces = c.in_ok-pieces.pieces.items in
    subst (λ ys. IfOk c.joined.result (λ all. all.items ≡ ys))
    (even_parts (denial (g.D.Decide.policy c.args.policy.now)) (λ v. v.items) moves n pieces some
    (subst (λ k. AreFromTo (λ i v. v.items ≡ map (denial (g.D.Decide.policy c.args.policy.now))
    (between (first_of (length moves) k i) (first_of (length moves) k (i + 1)) moves)) 0 k pieces)
    c.sectors-2.ensures c.in_ok-pieces.ensures))
    c.joined.ensures
