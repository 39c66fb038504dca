use Rattle.std.proofs.Common.{arith}
use Rattle.std.proofs.lemmas.Int.{ints}
use Rattle.vx_geom.proofs.SectorLemmas.{inside_at}
use Rattle.vx_geom.proofs.bounds.Bounds.index_in_sector.Goals as goal

pub cell_index-requires-clause-low : goal.cell_index-requires-clause-low
cell_index-requires-clause-low c =
    let inside = inside_at c.args.self.now c.args.p c.requires in
    omega (arith, ints, inside.y_is, inside.y_below, c.unsigned_abs-3.ensures.value)
