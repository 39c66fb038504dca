use Rattle.std.proofs.Common.{◌≡◌, refl, arith}
use Rattle.std.proofs.lemmas.Int.{ints}
use Rattle.vx_geom.specs.Dirs.{opposite}
use Rattle.vx_geom.specs.Neighbor.{neighbor}
use Rattle.vx_geom.specs.declared.dir.Dir.{Dir}
use Rattle.vx_geom.specs.declared.dir.Dir.TheVariants.{East, West, Up, Down, South, North}
use Rattle.vx_geom.specs.declared.pos.Pos.{Pos}

-- positions with the same coordinates are the same
pub same_pos : (p q : Pos) → p.y ≡ q.y → p.z ≡ q.z → p.x ≡ q.x → p ≡ q
same_pos p q in_y in_z in_x = λ i. record { y = in_y i; z = in_z i; x = in_x i }

-- a step and the step back
pub there_and_back : (p : Pos) (d : Dir) → neighbor (neighbor p d) (opposite d) ≡ p
there_and_back p East = same_pos _ p refl refl (omega (arith, ints))
there_and_back p West = same_pos _ p refl refl (omega (arith, ints))
there_and_back p Up = same_pos _ p (omega (arith, ints)) refl refl
there_and_back p Down = same_pos _ p (omega (arith, ints)) refl refl
there_and_back p South = same_pos _ p refl (omega (arith, ints)) refl
there_and_back p North = same_pos _ p refl (omega (arith, ints)) refl
