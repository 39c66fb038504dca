-- Levels near a position, one by one.
use Rattle.std.proofs.Common.{ℕ}
use Rattle.vx_block.specs.declared.cell.Cell.{Cell}
use Rattle.vx_geom.specs.declared.pos.Pos.{Pos}
use Rattle.vx_power.specs.Local.{AreLevelsNear}
use Rattle.vx_machine_laws.specs.Nearby.{IsTold}

pub near_are_these : (w : Pos → Cell) (n : ℕ) (p : Pos) (level : Pos → ℕ) → IsTold w n p level
unfolding AreLevelsNear
near_are_these w n p level = record { only = λ near. near; all = λ each. each }
