use Rattle.std.proofs.Common.{sym, subst}
use Rattle.vx_decide.specs.Candidates.{HoldCandidates}
use Rattle.vx_geom.specs.Extent.{is_within}
use Rattle.vx_index.proofs.Listed.{numbers_hold}
use Rattle.vx_index.proofs.tile.Tile.decide_near.Goals as goal

-- the regions near the place
pub decide_among-requires-clause-numbers : goal.decide_among-requires-clause-numbers
decide_among-requires-clause-numbers g c =
    subst (HoldCandidates c.args.asker.now.regions.now c.args.p) (sym c.deref.ensures.0)
    (numbers_hold c.args.asker.now.regions.now c.args.p c.args.self.now (λ d. is_within d.columns c.args.p) _ c.soundness.ensures.forest c.requires.of c.requires.within
    (λ d within. within) (c.gather.ensures c.if-not-gather.false))
