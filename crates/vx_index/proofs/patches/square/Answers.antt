use Rattle.std.proofs.Common.{arith}
use Rattle.std.proofs.lemmas.Int.{ints}
use Rattle.vx_index.proofs.Squares.{same_extent}
use Rattle.vx_index.proofs.patches.square.Goals as goal

pub returns : goal.returns
returns c =
    same_extent _ _ (omega (arith, ints, c.requires.west)) (omega (arith, ints, c.requires.west))
    (omega (arith, ints, c.requires.north)) (omega (arith, ints, c.requires.north))
