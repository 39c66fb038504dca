use Rattle.std.proofs.Common.{◌≡◌, arith}
use Rattle.std.proofs.lemmas.Int.{ints, clamps}
use Rattle.vx_geom.specs.Extent.{widened}
use Rattle.vx_geom.specs.declared.extent.Extent.{Extent}
use Rattle.vx_geom.proofs.extent.widened.Goals as goal

same_extent : (a b : Extent) → a.west ≡ b.west → a.east ≡ b.east → a.north ≡ b.north → a.south ≡ b.south → a ≡ b
same_extent a b in_west in_east in_north in_south =
    λ i. record { west = in_west i; east = in_east i; north = in_north i; south = in_south i }

pub returns : goal.returns
unfolding widened
returns c =
    same_extent _ _ (omega (arith, ints, clamps)) (omega (arith, ints, clamps))
    (omega (arith, ints, clamps)) (omega (arith, ints, clamps))
