use Rattle.vx_index.proofs.Edges.{west_fits, north_fits}
use Rattle.vx_index.proofs.indexed.tile_of.Goals as goal

pub new-requires-clause-west : goal.new-requires-clause-west
new-requires-clause-west c = rw c.west.ensures.value (west_fits c.args.bounds.now c.args.sector c.soundness.ensures)

pub new-requires-clause-north : goal.new-requires-clause-north
new-requires-clause-north c = rw c.north.ensures.value (north_fits c.args.bounds.now c.args.sector c.soundness.ensures c.requires)
