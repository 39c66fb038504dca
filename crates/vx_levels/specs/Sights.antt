-- What is seen of dust at a position.
use Rattle.std.specs.Prelude.{◌≡◌, ◌<◌, true}
use Rattle.vx_geom.specs.declared.pos.Pos.{Pos}
use Rattle.vx_block.specs.declared.cell.Cell.{Cell}
use Rattle.vx_block.specs.Components.{is_dust}
use Rattle.vx_levels.specs.declared.sight.Sight.{Sight}
use Rattle.vx_levels.specs.Linked.{linked}
use Rattle.vx_power.specs.Dust.{links}
use Rattle.vx_power.specs.Levels.{is_place}
use Rattle.vx_power.specs.Signals.{is_fed}

-- dust lies there, and this is what it links to and whether it is fed
pub record IsSightOf (w : Pos → Cell) (p : Pos) (sight : Sight) : Type 0 where
  pub dust : is_dust (w p) ≡ true
  pub place : is_place p ≡ true
  pub links : linked sight.links p ≡ links w p
  pub few : sight.links < 4096
  pub fed : sight.is_fed ≡ is_fed w p
