use Rattle.std.proofs.Common.{true, refl, sym, subst}
use Rattle.vx_decide.specs.Candidates.{HoldCandidates}
use Rattle.vx_index.proofs.Listed.{numbers_hold}
use Rattle.vx_index.proofs.tile.Tile.decide.Goals as goal

-- all regions of the tile
pub decide_among-requires-clause-numbers : goal.decide_among-requires-clause-numbers
decide_among-requires-clause-numbers c =
    subst (HoldCandidates c.args.asker.now.regions.now c.args.p) (sym c.deref.ensures.value)
    (numbers_hold c.args.asker.now.regions.now c.args.p c.args.self.now (λ d. true) c.args.self.now.numbers.items c.soundness.ensures.forest c.requires.of c.requires.within
    (λ d within. refl) c.requires.of.numbers)
