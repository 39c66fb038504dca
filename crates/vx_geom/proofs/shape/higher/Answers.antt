use Rattle.std.proofs.Common.{arith, ◌∙◌}
use Rattle.std.proofs.lemmas.Int.{ints, clamps}
use Rattle.vx_geom.specs.Outline.{higher}
use Rattle.vx_geom.proofs.Positions.{same_pos}
use Rattle.vx_geom.proofs.shape.higher.Goals as goal

pub returns : goal.returns
unfolding higher
returns c =
    c.new.ensures ∙ same_pos _ _ (omega (arith, ints, clamps)) (omega (arith, ints, clamps)) (omega (arith, ints, clamps))
