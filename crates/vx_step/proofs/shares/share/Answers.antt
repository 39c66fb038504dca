use Rattle.std.proofs.Common.{◌≡◌, ◌<◌, ◌≤◌, ◌+◌, ap, ◌∙◌, subst, arith}
use Rattle.vx_step.specs.Shares.{first_of, AreFromTo}
use Rattle.vx_step.proofs.Dividing.{firsts_grow, firsts_most}
use Rattle.vx_step.proofs.Joining.{one_more}
use Rattle.vx_step.proofs.shares.share.Goals as goal

pub piece-requires : goal.piece-requires
piece-requires g c =
    let k = c.args.workers in
    let i = c.args.worker in
    let n = c.sectors.result in
    let some : 0 < k = omega (arith, c.requires.workers) in
    let next : i + 1 ≤ k = omega (arith, c.requires.workers) in
    let most : first_of n k (i + 1) ≤ n = firsts_most n k (i + 1) some next in
    omega (arith, c.loop-sector-test.true, c.sectors_of-own.ensures.end, most, c.sectors.ensures)

pub loop-sector-preserved : goal.loop-sector-preserved
loop-sector-preserved g c =
    rw c.in_ok-push.ensures.items
    (one_more (g.W.Work.gives c.args.work.now) _ c.loop-sector.sector c.loop-sector.outs.items c.in_ok-piece.field-0
    c.loop-sector.invariant c.in_ok-piece.ensures)

pub returns : goal.returns
returns g c =
    let k = c.args.workers in
    let i = c.args.worker in
    let n = c.sectors.result in
    let some : 0 < k = omega (arith, c.requires.workers) in
    let grow : first_of n k i ≤ first_of n k (i + 1) = firsts_grow n k i some in
    let begin : c.sectors_of-own.result.start ≡ first_of n k i = c.sectors_of-own.ensures.first in
    let end : c.sectors_of-own.result.end ≡ first_of n k (i + 1) = c.sectors_of-own.ensures.end in
    let last : c.loop-sector.sector ≡ first_of n k (i + 1) = omega (arith, c.loop-sector-test.false, begin, end, grow) in
    subst (λ b. AreFromTo (g.W.Work.gives c.args.work.now) (first_of (g.W.Work.count c.args.work.now) k i) b c.loop-sector.outs.items)
    (last ∙ ap (λ n. first_of n k (i + 1)) c.sectors.ensures) c.loop-sector.invariant
