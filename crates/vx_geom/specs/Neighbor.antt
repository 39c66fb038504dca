use Rattle.std.specs.Prelude.{pos, ◌+ℤ◌, ◌-ℤ◌, FitsSigned}
use Rattle.std.specs.Int.{w32}
use Rattle.vx_geom.specs.declared.pos.Pos.{Pos}
use Rattle.vx_geom.specs.declared.dir.Dir.{Dir}
use Rattle.vx_geom.specs.declared.dir.Dir.TheVariants.{East, West, Up, Down, South, North}

-- the position one further on that side
abbrev pub neighbor : Pos → Dir → Pos
neighbor p East = record p { x = p.x +ℤ pos 1 }
neighbor p West = record p { x = p.x -ℤ pos 1 }
neighbor p Up = record p { y = p.y +ℤ pos 1 }
neighbor p Down = record p { y = p.y -ℤ pos 1 }
neighbor p South = record p { z = p.z +ℤ pos 1 }
neighbor p North = record p { z = p.z -ℤ pos 1 }

-- each coordinate fits 32 bits
pub record FitsPos (p : Pos) : Type 0 where
  pub y : FitsSigned w32 p.y
  pub z : FitsSigned w32 p.z
  pub x : FitsSigned w32 p.x
